use Rattle.uefi_text.proofs.Means.Paths.{fault_is_no_path}
use Rattle.uefi_text.proofs.laws.a_text_with_a_fault_stands_for_no_path.Goals as goal

pub returns : goal.returns
returns c = λ text fault path is-fault is. fault_is_no_path text fault path is-fault is
