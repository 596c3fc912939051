use Rattle.std.proofs.Common.{◌≡◌, ◌*◌, take}
use Rattle.uefi_path.specs.Units.{units_bytes}
use Rattle.uefi_path.proofs.units.write_units.Given as goal

abbrev pub invariant-loop-i : goal.invariant-loop-i
invariant-loop-i l = record {
  written : take (2 * l.i) l.bytes ≡ units_bytes (take l.i l.units);
}
