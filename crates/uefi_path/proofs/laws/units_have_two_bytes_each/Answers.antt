use Rattle.uefi_path.proofs.TwoBytes.{units_are_bytes, units_length}
use Rattle.uefi_path.proofs.laws.units_have_two_bytes_each.Goals as goal

pub returns : goal.returns
returns c = λ units. (units_are_bytes units, units_length units)
