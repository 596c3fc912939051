use Rattle.std.proofs.Common.{◌≡◌, flat_map, ℕ, List, ◌∷◌, ◌++◌}
use Rattle.std.specs.Fmt.{HasWritten, IsPlainFormatter}
use Rattle.uefi_text.specs.Segment.{comma}
use Rattle.uefi_names.specs.Shown.{item_text, items_in}
use Rattle.uefi_names.proofs.shown.ItemsTextDisplay.fmt.Given as goal

abbrev pub invariant-loop-left : goal.invariant-loop-left
invariant-loop-left g l =
    IsPlainFormatter l.initial.f
    → (done : List ℕ) × HasWritten g.W.Write.write_str_gives l.initial.f done l.f
    × (done ++ flat_map (λ one. comma ∷ item_text l.fn.self.item one) (items_in l.left l.fn.self.len l.rest)
    ≡ flat_map (λ one. comma ∷ item_text l.fn.self.item one) (items_in l.initial.left l.fn.self.len l.initial.rest))

abbrev pub decreases-loop-left : goal.decreases-loop-left
decreases-loop-left g l = l.left
