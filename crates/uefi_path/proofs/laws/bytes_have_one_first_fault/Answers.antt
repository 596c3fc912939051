use Rattle.uefi_path.proofs.Faults.{same_fault}
use Rattle.uefi_path.proofs.laws.bytes_have_one_first_fault.Goals as goal

pub returns : goal.returns
returns c = same_fault
