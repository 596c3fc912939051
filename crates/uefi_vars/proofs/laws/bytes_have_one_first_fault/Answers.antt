use Rattle.uefi_vars.proofs.Sets.{same_first_fault}
use Rattle.uefi_vars.proofs.laws.bytes_have_one_first_fault.Goals as goal

pub returns : goal.returns
returns c = same_first_fault
