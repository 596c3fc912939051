use Rattle.std.proofs.Common.{◌≡◌, flat_map, ℕ, List, ◌++◌, length}
use Rattle.std.specs.Fmt.{HasWritten, IsPlainFormatter}
use Rattle.uefi_names.specs.Shown.{escaped, units_in}
use Rattle.uefi_names.proofs.shown.UnitsTextDisplay.fmt.Given as goal

abbrev pub invariant-loop-unit : goal.invariant-loop-unit
invariant-loop-unit g l =
    IsPlainFormatter l.initial.f
    → (done : List ℕ) × HasWritten g.W.Write.write_str_gives l.initial.f done l.f
    × (done ++ flat_map escaped (units_in l.rest) ≡ flat_map escaped (units_in l.initial.rest))

abbrev pub decreases-loop-unit : goal.decreases-loop-unit
decreases-loop-unit g l = length l.rest
