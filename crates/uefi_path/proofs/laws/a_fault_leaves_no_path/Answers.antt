use Rattle.uefi_path.proofs.Paths.{no_fault_at_front}
use Rattle.uefi_path.proofs.laws.a_fault_leaves_no_path.Goals as goal

pub returns : goal.returns
returns c = λ bytes fault path n first front. no_fault_at_front bytes fault path n front first
