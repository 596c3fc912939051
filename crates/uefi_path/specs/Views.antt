-- Nodes where they are in the bytes of a path (UEFI 2.10, 10.3.1).
use Rattle.std.specs.Prelude.{◌≡◌, ℕ, zero, suc, ◌+◌, ◌-◌, ◌≤◌, nat_le, ◌&&◌, if◌then◌else◌, List, [], ◌∷◌, ◌++◌, length, take, drop}
use Rattle.std.specs.List.{flat_map}
use Rattle.std.specs.Int.{w16, from_le_bytes}
use Rattle.uefi_path.specs.declared.view.NodeView.{NodeView}
use Rattle.uefi_path.specs.declared.view.NodeIter.{NodeIter}
use Rattle.uefi_path.specs.Row.{Row, row, row_bytes}

-- the row that a view shows
abbrev pub row_seen : NodeView → Row
row_seen view = row view.kind view.sub view.body.now

-- The rows that are in the bytes one after the other, after this many bytes that are passed over: each takes as many
-- bytes as its header states, and they end where there is no whole row.
abbrev pub rows_behind : ℕ → List ℕ → List Row
rows_behind (suc n) [] = []
rows_behind (suc n) (_ ∷ bytes) = rows_behind n bytes
rows_behind zero (kind ∷ sub ∷ low ∷ high ∷ behind) =
    let len = from_le_bytes w16 (low ∷ high ∷ []) in
    if nat_le 4 len && nat_le len (4 + length behind)
    then row kind sub (take (len - 4) behind) ∷ rows_behind (len - 4) behind else []
rows_behind zero _ = []

-- the rows that are still to come
abbrev pub rows_left : NodeIter → List Row
rows_left nodes = rows_behind 0 nodes.bytes.now

-- the slice is what is in the input at this place
pub record IsSliceAt (input : List ℕ) (at : ℕ) (slice : List ℕ) : Type 0 where
  pub within : at + length slice ≤ length input
  pub is : slice ≡ take (length slice) (drop at input)

-- The data of each row are in the input at their place: after the bytes of the rows before it, and its own header.
abbrev pub AreAtTheirPlaces : List ℕ → List Row → Type 0
AreAtTheirPlaces input rows =
    (before after : List Row) (r : Row) → rows ≡ before ++ r ∷ after →
    IsSliceAt input (length (flat_map row_bytes before) + 4) r.body
