use Rattle.boot_trials.proofs.Runs.{unadded}
use Rattle.boot_trials.proofs.adding.add_and_try.Goals as goal

pub returns-in-Err-clause-refused : goal.returns-in-Err-clause-refused
returns-in-Err-clause-refused c = unadded c.args.addition.now c.args.vars.now c.in-Err.error c.in-Err.ensures.refused
