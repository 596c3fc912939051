use Rattle.std.proofs.Common.{◌≡◌, flat_map, ℕ, List, ◌∷◌, ◌++◌, length}
use Rattle.std.specs.Fmt.{HasWritten, IsPlainFormatter}
use Rattle.uefi_text.specs.Bytes.{hex_text}
use Rattle.uefi_names.specs.Shown.{colon, in_twos}
use Rattle.uefi_names.proofs.shown.Ipv6TextDisplay.fmt.Given as goal

abbrev pub invariant-loop-group : goal.invariant-loop-group
invariant-loop-group g l =
    IsPlainFormatter l.initial.f
    → (done : List ℕ) × HasWritten g.W.Write.write_str_gives l.initial.f done l.f
    × (done ++ flat_map (λ group. colon ∷ hex_text group) (in_twos l.rest) ≡ flat_map (λ group. colon ∷ hex_text group) (in_twos l.initial.rest))

abbrev pub decreases-loop-group : goal.decreases-loop-group
decreases-loop-group g l = length l.rest
