use Rattle.boot_trials.proofs.Files.{no_start}
use Rattle.boot_trials.proofs.reading.known_start.Goals as goal

pub returns-in-Ok-None-clause-refused : goal.returns-in-Ok-None-clause-refused
returns-in-Ok-None-clause-refused c other =
    let none = rw c.in-Ok-None.field-0-is at c.in-Ok-None.ensures.none in no_start c.args.vars.now none
