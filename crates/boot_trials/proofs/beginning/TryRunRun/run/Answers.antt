use Rattle.boot_trials.proofs.Runs.{try_no_data}
use Rattle.boot_trials.proofs.beginning.TryRunRun.run.Goals as goal

pub returns-in-Err-clause-refused : goal.returns-in-Err-clause-refused
returns-in-Err-clause-refused c = try_no_data c.args.self.entry c.args.vars.now c.in-Err.error c.in-Err.ensures.refused
