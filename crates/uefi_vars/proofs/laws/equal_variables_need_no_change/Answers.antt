use Rattle.uefi_vars.proofs.BootChanges.{none_needed}
use Rattle.uefi_vars.proofs.laws.equal_variables_need_no_change.Goals as goal

pub returns : goal.returns
returns c = none_needed
