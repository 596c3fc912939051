use Rattle.std.proofs.Common.{◌≡◌, ◌++◌, length}
use Rattle.uefi_path.specs.Units.{units_of}
use Rattle.uefi_path.proofs.units.read_units.Given as goal

abbrev pub invariant-loop-rest : goal.invariant-loop-rest
invariant-loop-rest l = record {
  read : l.units.items ++ units_of l.rest ≡ units_of l.bytes;
}

abbrev pub decreases-loop-rest : goal.decreases-loop-rest
decreases-loop-rest l = length l.rest
