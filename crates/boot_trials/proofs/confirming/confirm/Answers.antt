use Rattle.boot_trials.proofs.Runs.{confirming_refused}
use Rattle.boot_trials.proofs.confirming.confirm.Goals as goal

pub returns-in-Err-clause-refused : goal.returns-in-Err-clause-refused
returns-in-Err-clause-refused c =
    confirming_refused c.args.run.now.trial.now c.args.run.now.start.now c.args.vars.now c.requires c.in-Err.error
    (rw c.entry.ensures at c.in-Err.ensures.refused)

pub returns-in-Ok-clause-done : goal.returns-in-Ok-clause-done
returns-in-Ok-clause-done c = record { outcome = c.requires; made = rw c.entry.ensures at c.in-Ok.ensures.done }
