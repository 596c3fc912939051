use Rattle.std.proofs.Common.{◌≡◌, map, take}
use Rattle.uefi_names.specs.Cut.{trimmed}
use Rattle.uefi_names.proofs.cut.trimmed_all.Given as goal

abbrev pub invariant-loop-text : goal.invariant-loop-text
invariant-loop-text l =
    map (λ text. text.now) l.all.items ≡ map trimmed (map (λ text. text.now) (take l.text-index l.texts))
