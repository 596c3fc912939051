use Rattle.boot_trials.proofs.Runs.{confirming_no_data}
use Rattle.boot_trials.proofs.confirming.ConfirmRunRun.run.Goals as goal

pub returns-in-Err-clause-refused : goal.returns-in-Err-clause-refused
returns-in-Err-clause-refused c =
    confirming_no_data c.args.self.trial.now c.args.self.start.now c.args.vars.now c.in-Err.error c.in-Err.ensures.refused
