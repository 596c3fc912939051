use Rattle.std.proofs.Common.{◌≡◌, flat_map, ℕ, List, ◌++◌, length}
use Rattle.std.specs.Fmt.{HasWritten, IsPlainFormatter}
use Rattle.uefi_names.specs.Shown.{char_text, chars_in}
use Rattle.uefi_names.proofs.whole.WholeTextDisplay.fmt.Given as goal

abbrev pub invariant-loop-character : goal.invariant-loop-character
invariant-loop-character g l =
    IsPlainFormatter l.initial.f
    → (done : List ℕ) × HasWritten g.W.Write.write_str_gives l.initial.f done l.f
    × (done ++ flat_map (char_text l.fn.self.encoding) (chars_in l.fn.self.encoding l.rest)
    ≡ flat_map (char_text l.fn.self.encoding) (chars_in l.fn.self.encoding l.initial.rest))

abbrev pub decreases-loop-character : goal.decreases-loop-character
decreases-loop-character g l = length l.rest
