-- A request of the next number is applied, and then those that follow it: together they lead to the settled state.
use Rattle.std.proofs.Common.{◌≡◌, ◌-◌, ℕ, sym, ap, subst, ◌∙◌, arith}
use Rattle.std.specs.FinMap.{insert}
use Rattle.uefi_vars.specs.Vars.{Variables}
use Rattle.uefi_vars.specs.NameChanges.{with_changes}
use Rattle.boot_requests.specs.declared.outcome.Outcome.{Outcome}
use Rattle.boot_requests.specs.declared.reply.Reply.TheVariants as reply
use Rattle.boot_requests.specs.State.{State}
use Rattle.boot_requests.specs.Apply.{after_request, outcome_of}
use Rattle.boot_requests.specs.Keeper.{IsStateOf}
use Rattle.boot_requests.specs.Turn.{Plain, plain_start, settled_state}
use Rattle.boot_requests.specs.StateOf.{state_of, plain_of, image_of}
use Rattle.boot_requests.specs.Slots.{above, waiting_of, IsWindow}
use Rattle.boot_requests.proofs.Variables.Images.{image_again}
use Rattle.boot_requests.proofs.Turn.Fills.{settled_state_filled, settled_state_is}
use Rattle.boot_requests.proofs.keeper.Keeper.fill.Goals as goal

pub apply-requires-clause-stands : goal.apply-requires-clause-stands
apply-requires-clause-stands c =
    subst (λ (v : Variables). IsStateOf (state_of v c.self.inside.mark) v) (sym (c.new-changes.ensures c.self.inside.vars)) c.self.invariant.stands

pub apply_followers-requires-clause-waits : goal.apply_followers-requires-clause-waits
apply_followers-requires-clause-waits c =
    let before : c.self.inside.mark.next_number ≡ c.in_ok-outcome.first.next_number - 1 = omega (arith, c.in_ok-outcome.ensures.number) in
    subst (λ (n : ℕ). IsWindow n c.self.inside.window) before c.self.invariant.waits

pub returns-clause-state : goal.returns-clause-state
returns-clause-state c =
    let inside = c.self.inside in
    let next = inside.mark.next_number in
    let waiting = waiting_of next inside.window in
    let m = state_of inside.vars inside.mark in
    let r = c.args.request.now in
    let first = c.in_ok-outcome.first in
    let mark = c.in_ok-mark.mark in
    let changes = c.apply_followers.new.changes in
    let to = state_of (with_changes inside.vars changes) mark in
    let one = with_changes inside.vars c.apply.new.changes in
    let same_state = ap (λ (v : Variables). state_of v inside.mark) (c.new-changes.ensures inside.vars) in
    let after_first = c.in_ok-outcome.ensures.state ∙ ap (λ (s : State). after_request s r) same_state in
    let before : first.next_number - 1 ≡ next = omega (arith, c.in_ok-outcome.ensures.number) in
    let is = c.in_ok-mark.ensures.state ∙ ap (λ (n : ℕ). (settled_state (plain_start (state_of one first)) (waiting_of n inside.window)).state) before
    ∙ ap (λ (s : State). (settled_state (plain_start s) waiting).state) after_first in
    let all = settled_state_is (after_request m r) to waiting is ∙ sym (settled_state_filled m waiting r) in
    let image = image_again m inside.vars c.self.invariant.stands in
    subst (λ (k : Plain).
    plain_of (state_of (with_changes (image_of k.state) changes) mark) (above mark.next_number k.waiting) k.plan
    ≡ settled_state k (insert k.waiting k.state.next_number r)) c.self.view_is
    (ap (λ (v : Variables). plain_of (state_of (with_changes v changes) mark) (above mark.next_number waiting) inside.plan) image
    ∙ ap (λ (p : Plain). plain_of p.state p.waiting inside.plan) all)

pub returns-clause-answer : goal.returns-clause-answer
returns-clause-answer c =
    let inside = c.self.inside in
    let r = c.args.request.now in
    let outcome = c.in_ok-outcome.ensures.outcome ∙ ap (λ (v : Variables). outcome_of (state_of v inside.mark) r) (c.new-changes.ensures inside.vars)
    ∙ ap (λ (k : Plain). outcome_of k.state r) c.self.view_is in
    ap (λ (n : ℕ). reply.Applied c.in_ok-outcome.outcome n) c.next_number-after.ensures
    ∙ ap (λ (o : Outcome). reply.Applied o c.in_ok-mark.mark.next_number) outcome

pub returns-clause-fits : goal.returns-clause-fits
returns-clause-fits c =
    let inside = c.self.inside in
    let mark = c.in_ok-mark.mark in
    let changes = c.apply_followers.new.changes in
    let image = image_again (state_of inside.vars inside.mark) inside.vars c.self.invariant.stands in
    let stands = subst (λ (v : Variables). IsStateOf (state_of (with_changes v changes) mark) (with_changes v changes))
    (sym image) c.in_ok-mark.ensures.stands in (
      omega (arith, ap (λ (k : Plain). k.state.next_number) c.self.view_is, c.in_ok-outcome.ensures.number, c.in_ok-mark.ensures.number),
      subst (λ (k : Plain).
          IsStateOf (state_of (with_changes (image_of k.state) changes) mark) (with_changes (image_of k.state) changes)) c.self.view_is stands,
    )
