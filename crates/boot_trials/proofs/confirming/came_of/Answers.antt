use Rattle.std.proofs.Common.{subst}
use Rattle.uefi_vars.specs.Vars.{Variables}
use Rattle.boot_trials.specs.Outcome.{IsOutcome, current_of}
use Rattle.boot_trials.proofs.confirming.came_of.Goals as goal

pub returns-clause-done : goal.returns-clause-done
returns-clause-done c =
    subst (λ (v : Variables). IsOutcome c.args.run.now.trial.now c.args.run.now.start.now (current_of v) v c.in_ok-outcome_in.field-0)
    c.in_ok-set.ensures.set c.in_ok-outcome_in.ensures
