use Rattle.std.proofs.Common.{refl}
use Rattle.uefi_path.specs.Path.{path_bytes}
use Rattle.uefi_path.proofs.Paths.{path_bytes_are_bytes}
use Rattle.uefi_path.proofs.laws.each_path_is_spelled.Goals as goal

pub returns : goal.returns
returns c = λ path is. (path_bytes path, (is, refl), path_bytes_are_bytes path is)
