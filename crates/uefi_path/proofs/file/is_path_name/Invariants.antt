use Rattle.std.proofs.Common.{◌≡◌, is_some, length}
use Rattle.uefi_path.specs.Reader.{name_of}
use Rattle.uefi_path.proofs.file.is_path_name.Given as goal

abbrev pub invariant-loop-rest : goal.invariant-loop-rest
invariant-loop-rest l = is_some (name_of l.rest) ≡ is_some (name_of l.bytes)

abbrev pub decreases-loop-rest : goal.decreases-loop-rest
decreases-loop-rest l = length l.rest
