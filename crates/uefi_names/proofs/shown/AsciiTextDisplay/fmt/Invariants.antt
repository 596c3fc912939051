use Rattle.std.proofs.Common.{◌≡◌, flat_map, ℕ, List, ◌++◌, length}
use Rattle.std.specs.Fmt.{HasWritten, IsPlainFormatter}
use Rattle.uefi_names.specs.Shown.{escaped, nth_text}
use Rattle.uefi_names.proofs.shown.AsciiTextDisplay.fmt.Given as goal

abbrev pub invariant-loop-byte : goal.invariant-loop-byte
invariant-loop-byte g l =
    IsPlainFormatter l.initial.f
    → (done : List ℕ) × HasWritten g.W.Write.write_str_gives l.initial.f done l.f
    × (done ++ flat_map escaped (nth_text l.before l.rest) ≡ flat_map escaped (nth_text l.initial.before l.initial.rest))

abbrev pub decreases-loop-byte : goal.decreases-loop-byte
decreases-loop-byte g l = length l.rest
