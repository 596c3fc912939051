use Rattle.boot_trials.proofs.Runs.{kept_active, active_refused}
use Rattle.std.proofs.Common.{refl}
use Rattle.boot_trials.proofs.confirmation.activated.Goals as goal

pub returns-in-Ok-clause-done : goal.returns-in-Ok-clause-done
returns-in-Ok-clause-done c = kept_active c.args.entry c.args.vars.now _ c.in-Ok.to _ c.in-Ok.ensures.done refl

pub returns-in-Err-clause-refused : goal.returns-in-Err-clause-refused
returns-in-Err-clause-refused c = active_refused c.args.entry c.args.vars.now _ c.in-Err.error c.in-Err.ensures.refused refl
