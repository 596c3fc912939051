use Rattle.uefi_path.proofs.TwoBytes.{units_again}
use Rattle.uefi_path.proofs.laws.units_are_read_again.Goals as goal

pub returns : goal.returns
returns c = units_again
