use Rattle.boot_edits.proofs.listed.check_one.Goals as goal

pub returns-in-Option-clause-fine : goal.returns-in-Option-clause-fine
returns-in-Option-clause-fine c = rw c.in-Option.is c.check_entry_option.ensures.fine
