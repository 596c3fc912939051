use Rattle.boot_trials.proofs.Files.{no_stage}
use Rattle.boot_trials.proofs.reading.known_stage.Goals as goal

pub returns-in-None-clause-refused : goal.returns-in-None-clause-refused
returns-in-None-clause-refused c = no_stage c.args.vars.now c.in-None.ensures.none
