use Rattle.boot_trials.proofs.Runs.{confirm_first}
use Rattle.boot_trials.proofs.confirmation.confirmed.Goals as goal

pub returns-in-Err-clause-refused : goal.returns-in-Err-clause-refused
returns-in-Err-clause-refused c = confirm_first c.args.entry c.args.vars.now c.in-Err.error c.in-Err.ensures.refused
