-- What follows in the window is applied one request after the other: the state to which all of them lead stays the same.
use Rattle.std.proofs.Common.{ℕ, ◌-◌, sym, ap, ◌∙◌, arith}
use Rattle.std.specs.FinMap.{get}
use Rattle.uefi_vars.specs.NameChanges.{with_changes}
use Rattle.boot_requests.specs.State.{State}
use Rattle.boot_requests.specs.Turn.{Plain, plain_start, settled_state}
use Rattle.boot_requests.specs.StateOf.{state_of}
use Rattle.boot_requests.specs.Slots.{waiting_of}
use Rattle.boot_requests.proofs.Turn.Slots.{found_waiting}
use Rattle.boot_requests.proofs.Turn.Fills.{settled_state_next, settled_state_here}
use Rattle.boot_requests.proofs.gap.apply_followers.Goals as goal

pub apply-requires-clause-room : goal.apply-requires-clause-room
apply-requires-clause-room c =
    let first = c.args.mark.next_number in
    let window = c.args.window.now in
    let held = c.in-Some.ensures ∙ ap (λ (n : ℕ). get (waiting_of (n - 1) window) c.next_number.result) c.next_number-next.ensures
    ∙ ap (λ (n : ℕ). get (waiting_of (first - 1) window) n) c.next_number.ensures in
    (found_waiting (first - 1) c.loop-request.now.next_number window c.in-Some.request.now c.requires.waits held).2.1.below

pub apply-requires-clause-fits : goal.apply-requires-clause-fits
apply-requires-clause-fits c =
    let first = c.args.mark.next_number in
    let window = c.args.window.now in
    let held = c.in-Some.ensures ∙ ap (λ (n : ℕ). get (waiting_of (n - 1) window) c.next_number.result) c.next_number-next.ensures
    ∙ ap (λ (n : ℕ). get (waiting_of (first - 1) window) n) c.next_number.ensures in
    (found_waiting (first - 1) c.loop-request.now.next_number window c.in-Some.request.now c.requires.waits held).2.1.len

pub loop-request-preserved : goal.loop-request-preserved
loop-request-preserved c =
    let first = c.args.mark.next_number in
    let window = c.args.window.now in
    let waiting = waiting_of (first - 1) window in
    let held = c.in-Some.ensures ∙ ap (λ (n : ℕ). get (waiting_of (n - 1) window) c.next_number.result) c.next_number-next.ensures
    ∙ ap (λ (n : ℕ). get waiting n) c.next_number.ensures in
    record {
      above = omega (arith, c.loop-request.invariant.above, c.in_ok-_outcome.ensures.number);
      stands = c.in_ok-_outcome.ensures.stands;
      settled =
          ap (λ (s : State). settled_state (plain_start s) waiting) c.in_ok-_outcome.ensures.state
          ∙ sym (settled_state_next (state_of (with_changes c.args.vars.now c.loop-request.changes) c.loop-request.now) waiting c.in-Some.request.now
          (sym held))
          ∙ c.loop-request.invariant.settled;
    }

pub returns-clause-state : goal.returns-clause-state
returns-clause-state c =
    let first = c.args.mark.next_number in
    let window = c.args.window.now in
    let waiting = waiting_of (first - 1) window in
    let free = c.in_default.ensures ∙ ap (λ (n : ℕ). get (waiting_of (n - 1) window) c.next_number.result) c.next_number-next.ensures
    ∙ ap (λ (n : ℕ). get waiting n) c.next_number.ensures in
    sym (settled_state_here (state_of (with_changes c.args.vars.now c.loop-request.changes) c.loop-request.now) waiting (sym free))
    ∙ ap (λ (k : Plain). k.state) c.loop-request.invariant.settled
