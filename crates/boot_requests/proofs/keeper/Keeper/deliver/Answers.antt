-- Each answer to a request that came is that of a turn: the tests of its number say of which.
use Rattle.std.proofs.Common.{◌≢◌, ℕ, sym, ap, subst, ◌∙◌, arith}
use Rattle.std.specs.FinMap.{get, insert}
use Rattle.std.proofs.lemmas.Bool.{false≢true}
use Rattle.boot_requests.specs.declared.reply.Reply.TheVariants as reply
use Rattle.boot_requests.specs.declared.request.Request.{Request}
use Rattle.boot_requests.specs.Seen.{Came}
use Rattle.boot_requests.specs.Turn.{Plain, Turn}
use Rattle.boot_requests.specs.Keeper.{AreWaiting}
use Rattle.boot_requests.specs.StateOf.{plain_of}
use Rattle.boot_requests.specs.Slots.{waiting_of}
use Rattle.boot_requests.specs.Update.{after_update}
use Rattle.boot_requests.proofs.Turn.Slots.{are_waiting}
use Rattle.boot_requests.proofs.Turn.Steps.{turn_before, turn_ahead, turn_conflict, turn_again, turn_waits, turn_next}
use Rattle.boot_requests.proofs.keeper.Keeper.deliver.Goals as goal

pub returns-then-number-next_number-clause-turn : goal.returns-then-number-next_number-clause-turn
returns-then-number-next_number-clause-turn c =
    let k = c.args.self.now in
    let next_is = c.next_number-next_number.ensures ∙ ap (λ (p : Plain). p.state.next_number) c.self.view_is in
    turn_before k c.args.number c.args.request c.again.result (omega (arith, c.if-number-next_number.true, next_is)) c.again.ensures

pub returns-then-is_ahead-clause-turn : goal.returns-then-is_ahead-clause-turn
returns-then-is_ahead-clause-turn c =
    let k = c.args.self.now in
    let next_is = c.next_number-next_number.ensures ∙ ap (λ (p : Plain). p.state.next_number) c.self.view_is in
    subst (λ (n : ℕ). Turn k (Came c.args.number c.args.request) k (reply.Ahead n)) (sym next_is)
    (turn_ahead k c.args.number c.args.request (omega (arith, c.if-number-next_number.false, next_is)) (omega (arith, c.if-is_ahead.true, next_is)))

pub returns-then-number-next_number-2-clause-turn : goal.returns-then-number-next_number-2-clause-turn
returns-then-number-next_number-2-clause-turn c =
    let k = c.args.self.now in
    let next_is = c.next_number-next_number.ensures ∙ ap (λ (p : Plain). p.state.next_number) c.self.view_is in
    let waiting = subst (λ (p : Plain). AreWaiting p.state.next_number p.waiting) c.self.view_is
    (are_waiting c.self.inside.mark.next_number c.self.inside.window c.self.invariant.waits) in
    turn_next k c.args.number c.args.request waiting (omega (arith, c.if-number-next_number-2.true, next_is))
    (after_update k c.in_ok-answer.answer.0) c.in_ok-answer.answer.1 c.in_ok-answer.ensures.state c.in_ok-answer.ensures.answer

pub returns-in-Some-clause-turn : goal.returns-in-Some-clause-turn
returns-in-Some-clause-turn c =
    let k = c.args.self.now in
    let next_is = c.next_number-next_number.ensures ∙ ap (λ (p : Plain). p.state.next_number) c.self.view_is in
    let held = ap (λ (p : Plain). get p.waiting c.args.number) (sym c.self.view_is)
    ∙ ap (λ (n : ℕ). get (waiting_of n c.self.inside.window) c.args.number) (sym c.next_number-next_number.ensures) ∙ sym c.in-Some.ensures in
    let same = (c.requests_compare_as_values.ensures c.in-Some.other.now c.args.request).0 (sym c.eq.ensures ∙ c.if-eq.true) in
    subst (λ (n : ℕ). Turn k (Came c.args.number c.args.request) k (reply.Waiting n)) (sym next_is)
    (turn_again k c.args.number c.args.request c.in-Some.other.now (omega (arith, c.if-number-next_number.false, next_is))
    (omega (arith, c.if-is_ahead.false, c.if-number-next_number.false, next_is)) held same)

pub returns-in-Some-2-clause-turn : goal.returns-in-Some-2-clause-turn
returns-in-Some-2-clause-turn c =
    let k = c.args.self.now in
    let next_is = c.next_number-next_number.ensures ∙ ap (λ (p : Plain). p.state.next_number) c.self.view_is in
    let held = ap (λ (p : Plain). get p.waiting c.args.number) (sym c.self.view_is)
    ∙ ap (λ (n : ℕ). get (waiting_of n c.self.inside.window) c.args.number) (sym c.next_number-next_number.ensures) ∙ sym c.in-Some.ensures in
    let differ : c.in-Some.other.now ≢ c.args.request = λ same.
    false≢true (sym c.if-eq.false ∙ c.eq.ensures ∙ (c.requests_compare_as_values.ensures c.in-Some.other.now c.args.request).1 same) in
    turn_conflict k c.args.number c.args.request c.in-Some.other.now (omega (arith, c.if-number-next_number.false, next_is))
    (omega (arith, c.if-is_ahead.false, c.if-number-next_number.false, next_is)) held differ

pub returns-clause-turn : goal.returns-clause-turn
returns-clause-turn c =
    let k = c.args.self.now in
    let r = c.args.request in
    let next_is = c.next_number-next_number.ensures ∙ ap (λ (p : Plain). p.state.next_number) c.self.view_is in
    let waiting = subst (λ (p : Plain). AreWaiting p.state.next_number p.waiting) c.self.view_is
    (are_waiting c.self.inside.mark.next_number c.self.inside.window c.self.invariant.waits) in
    let none = ap (λ (p : Plain). get p.waiting c.args.number) (sym c.self.view_is)
    ∙ ap (λ (n : ℕ). get (waiting_of n c.self.inside.window) c.args.number) (sym c.next_number-next_number.ensures) ∙ sym c.in-None.ensures in
    let turn = turn_waits k c.args.number r waiting (omega (arith, c.if-number-next_number.false, c.if-number-next_number-2.false, next_is))
    (omega (arith, c.if-is_ahead.false, c.if-number-next_number.false, next_is)) none in
    subst (λ (request : Request).
    Turn k (Came c.args.number r) (plain_of k.state (insert k.waiting c.args.number request) k.plan) (reply.Waiting c.next_number-next_number.result))
    (sym c.in_ok-request-in-None.ensures.ok)
    (subst (λ (n : ℕ). Turn k (Came c.args.number r) (plain_of k.state (insert k.waiting c.args.number r) k.plan) (reply.Waiting n)) (sym next_is) turn)
