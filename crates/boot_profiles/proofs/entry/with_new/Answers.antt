use Rattle.boot_profiles.proofs.Refusals.{added_new, new_fault}
use Rattle.boot_profiles.proofs.entry.with_new.Goals as goal

pub returns-in-Ok-clause-done : goal.returns-in-Ok-clause-done
returns-in-Ok-clause-done c = added_new c.args.vars.now c.in-Ok.to _ _ c.in-Ok.ensures.done

pub returns-in-Err-clause-refused : goal.returns-in-Err-clause-refused
returns-in-Err-clause-refused c memory =
    new_fault c.a_fault_leaves_no_option.ensures c.args.vars.now _ c.requires.0 c.requires.1 c.in-Err.fault (c.in-Err.ensures.refused memory)
