use Rattle.std.proofs.Common.{refl}
use Rattle.boot_trials.proofs.Runs.{added_untried}
use Rattle.boot_trials.proofs.adding.try_entry.Goals as goal

pub returns-in-Ok-clause-done : goal.returns-in-Ok-clause-done
returns-in-Ok-clause-done c = record {
  between = c.args.between.now;
  answer = c.args.added;
  told = refl;
  added = c.requires.run;
  entry = c.args.entry;
  names = c.requires.names;
  tried = c.in-Ok.ensures.done;
}

pub returns-in-Err-clause-refused : goal.returns-in-Err-clause-refused
returns-in-Err-clause-refused c =
    added_untried c.args.addition.now c.args.vars.now c.args.between.now c.args.added c.args.entry c.requires.run c.requires.names c.in-Err.error
    c.in-Err.ensures.refused
