use Rattle.boot_trials.proofs.Files.{no_digest}
use Rattle.boot_trials.proofs.reading.known_digest.Goals as goal

pub returns-in-None-clause-refused : goal.returns-in-None-clause-refused
returns-in-None-clause-refused c = no_digest c.args.vars.now c.in-None.ensures.none
