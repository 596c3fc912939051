use Rattle.boot_trials.proofs.Files.{fault_of_set}
use Rattle.boot_trials.proofs.file.trial_of_set.Goals as goal

pub returns-in-Err-clause-refused : goal.returns-in-Err-clause-refused
returns-in-Err-clause-refused c =
    fault_of_set c.args.bytes.now c.args.vars.now (λ other. c.bytes_spell_one_set.ensures c.args.bytes.now c.args.vars.now other)
    c.requires c.in-Err.fault c.in-Err.ensures.refused
