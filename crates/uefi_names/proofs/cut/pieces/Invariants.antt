use Rattle.std.proofs.Common.{◌≡◌, ◌++◌, ℕ, List, length, map, suc}
use Rattle.std.specs.Prelude.{Option, Some, None}
use Rattle.std.specs.Option.{option_map}
use Rattle.uefi_names.specs.Cut.{pieces, pieces_left}
use Rattle.uefi_names.proofs.cut.pieces.Given as goal

abbrev pub invariant-loop-left : goal.invariant-loop-left
invariant-loop-left l =
    map (λ piece. piece.now) l.all.items ++ pieces_left l.mark (option_map (λ rest. rest.now) l.left) ≡ pieces l.mark l.text

-- one more than the length of what is left, and nothing once nothing is left
abbrev left_len : Option (List ℕ) → ℕ
left_len None = 0
left_len (Some rest) = suc (length rest)

abbrev pub decreases-loop-left : goal.decreases-loop-left
decreases-loop-left l = left_len (option_map (λ rest. rest.now) l.left)
