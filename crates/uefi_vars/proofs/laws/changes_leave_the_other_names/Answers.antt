use Rattle.uefi_vars.proofs.Names.{get-insert_apart, get-remove_apart}
use Rattle.uefi_vars.proofs.laws.changes_leave_the_other_names.Goals as goal

pub returns-clause-put : goal.returns-clause-put
returns-clause-put c = get-insert_apart

pub returns-clause-removed : goal.returns-clause-removed
returns-clause-removed c = get-remove_apart
