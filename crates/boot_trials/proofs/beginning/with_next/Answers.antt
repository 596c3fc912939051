use Rattle.boot_trials.proofs.Runs.{kept_next, next_refused}
use Rattle.boot_trials.proofs.beginning.with_next.Goals as goal

pub returns-in-Ok-clause-done : goal.returns-in-Ok-clause-done
returns-in-Ok-clause-done c = kept_next c.args.entry c.args.vars.now c.in-Ok.to _ c.in-Ok.ensures.done

pub returns-in-Err-clause-refused : goal.returns-in-Err-clause-refused
returns-in-Err-clause-refused c = next_refused c.args.entry c.args.vars.now c.in-Err.error c.in-Err.ensures.refused
