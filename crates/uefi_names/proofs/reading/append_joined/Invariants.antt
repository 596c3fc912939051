use Rattle.std.proofs.Common.{◌≡◌, ◌++◌, ◌∷◌, take}
use Rattle.std.specs.Prelude.{flat_map}
use Rattle.std.specs.String.{string_bytes}
use Rattle.uefi_text.specs.Segment.{comma}
use Rattle.uefi_names.proofs.reading.append_joined.Given as goal

abbrev pub invariant-loop-argument : goal.invariant-loop-argument
invariant-loop-argument l =
    string_bytes l.text ≡ string_bytes l.initial.text ++ flat_map (λ argument. comma ∷ argument.now) (take l.argument-index l.others)
