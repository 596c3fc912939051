use Rattle.uefi_path.proofs.Whole.{bytes_begin}
use Rattle.uefi_path.proofs.laws.bytes_begin_with_a_path_or_have_a_fault.Goals as goal

pub returns : goal.returns
returns c = bytes_begin
