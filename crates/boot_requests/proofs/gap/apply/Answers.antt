-- A request is applied to the state that the changed variables stand for: its outcome, its effect, and the mark after it.
use Rattle.std.proofs.Common.{refl, sym, subst, ◌∙◌}
use Rattle.uefi_vars.specs.NameChanges.{with_changes}
use Rattle.boot_requests.specs.declared.outcome.Outcome.{Outcome}
use Rattle.boot_requests.specs.Outcome.{IsOutcome}
use Rattle.boot_requests.specs.StateOf.{state_of}
use Rattle.boot_requests.proofs.WholeRuns.Effects.{outcome_valid}
use Rattle.boot_requests.proofs.Variables.StateOf.{stands_again, read_again}
use Rattle.boot_requests.proofs.Turn.Steps.{after_request_is}
use Rattle.boot_requests.proofs.gap.apply.Goals as goal

pub after-requires-clause-valid : goal.after-requires-clause-valid
after-requires-clause-valid c =
    let m = state_of (with_changes c.args.vars.now c.args.changes.now) c.args.mark.now in
    let edited = c.in_ok-outcome.ensures m c.requires.stands in
    subst (λ (o : Outcome). IsOutcome o) (sym edited.0) (outcome_valid m c.args.request.now)

pub returns-clause-state : goal.returns-clause-state
returns-clause-state c =
    let m = state_of (with_changes c.args.vars.now c.args.changes.now) c.args.mark.now in
    let edited = c.in_ok-outcome.ensures m c.requires.stands in
    read_again _ _ _ refl (c.in_ok-store_mark.ensures.changes c.args.vars.now _ edited.1)
    ∙ after_request_is m c.args.request.now c.in_ok-outcome.outcome c.in_ok-after.after edited.0 c.in_ok-after.ensures

pub returns-clause-stands : goal.returns-clause-stands
returns-clause-stands c =
    let m = state_of (with_changes c.args.vars.now c.args.changes.now) c.args.mark.now in
    let edited = c.in_ok-outcome.ensures m c.requires.stands in
    stands_again _ _ _ refl (c.in_ok-store_mark.ensures.changes c.args.vars.now _ edited.1)
