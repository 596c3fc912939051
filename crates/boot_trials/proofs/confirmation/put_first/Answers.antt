use Rattle.boot_trials.proofs.Runs.{kept_first, first_refused}
use Rattle.std.proofs.Common.{refl}
use Rattle.boot_trials.proofs.confirmation.put_first.Goals as goal

pub returns-in-Ok-clause-done : goal.returns-in-Ok-clause-done
returns-in-Ok-clause-done c = kept_first c.args.entry c.args.vars.now _ c.in-Ok.to _ c.in-Ok.ensures.done refl

pub returns-in-Err-clause-refused : goal.returns-in-Err-clause-refused
returns-in-Err-clause-refused c = first_refused c.args.entry c.args.vars.now _ c.in-Err.error c.in-Err.ensures.refused refl
