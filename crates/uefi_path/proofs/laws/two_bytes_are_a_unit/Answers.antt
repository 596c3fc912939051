use Rattle.uefi_path.proofs.TwoBytes.{are_two_bytes, half_as_long}
use Rattle.uefi_path.proofs.laws.two_bytes_are_a_unit.Goals as goal

pub returns : goal.returns
returns c = λ bytes valid. (are_two_bytes bytes valid, half_as_long bytes)
