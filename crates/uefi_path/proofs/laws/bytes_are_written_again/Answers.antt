use Rattle.uefi_path.proofs.TwoBytes.{bytes_again}
use Rattle.uefi_path.proofs.laws.bytes_are_written_again.Goals as goal

pub returns : goal.returns
returns c = bytes_again
