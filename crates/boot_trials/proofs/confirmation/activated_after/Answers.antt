use Rattle.boot_trials.proofs.Runs.{confirm_active}
use Rattle.boot_trials.proofs.confirmation.activated_after.Goals as goal

pub returns-in-Ok-clause-done : goal.returns-in-Ok-clause-done
returns-in-Ok-clause-done c = record { between = c.args.between.now; first = c.requires; active = c.in-Ok.ensures.done }

pub returns-in-Err-clause-refused : goal.returns-in-Err-clause-refused
returns-in-Err-clause-refused c =
    confirm_active c.args.entry c.args.vars.now c.args.between.now c.requires c.in-Err.error c.in-Err.ensures.refused
