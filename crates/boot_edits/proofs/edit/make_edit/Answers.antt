use Rattle.boot_edits.proofs.edit.make_edit.Goals as goal

pub returns-in-Add-clause-refused : goal.returns-in-Add-clause-refused
returns-in-Add-clause-refused c = rw c.in-Add.is c.add.ensures.refused
