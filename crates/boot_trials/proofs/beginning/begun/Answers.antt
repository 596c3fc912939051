use Rattle.boot_trials.proofs.Runs.{try_no_next}
use Rattle.boot_trials.proofs.beginning.begun.Goals as goal

pub returns-in-Ok-clause-done : goal.returns-in-Ok-clause-done
returns-in-Ok-clause-done c = record { new = c.requires; next = c.in-Ok.ensures.done }

pub returns-in-Err-clause-refused : goal.returns-in-Err-clause-refused
returns-in-Err-clause-refused c = try_no_next c.args.run.now.entry c.args.vars.now c.in-Err.error c.in-Err.ensures.refused
