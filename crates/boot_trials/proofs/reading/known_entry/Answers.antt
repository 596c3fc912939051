use Rattle.boot_trials.proofs.Files.{no_entry}
use Rattle.boot_trials.proofs.reading.known_entry.Goals as goal

pub returns-in-None-clause-refused : goal.returns-in-None-clause-refused
returns-in-None-clause-refused c = no_entry c.args.vars.now c.in-None.ensures.none
