use Rattle.uefi_vars.proofs.BootChanges.{each_needed}
use Rattle.uefi_vars.proofs.laws.each_change_is_needed.Goals as goal

pub returns : goal.returns
returns c = each_needed
