-- For the private type of the mark, a next number with the outcomes that are kept before it, and for its bytes.
use Rattle.std.specs.Prelude.{◌≡◌, ◌⊎◌, ℕ, ◌+◌, ◌^◌, ◌<◌, List, ◌∷◌, ◌++◌, map}
use Rattle.std.specs.Int.{w32, to_le_bytes}
use Rattle.boot_requests.specs.declared.outcome.Code.{Code}
use Rattle.boot_requests.specs.declared.outcome.Outcome.{Outcome}
use Rattle.boot_requests.specs.Outcome.{without_entry}
use Rattle.boot_requests.specs.State.{State, MarkParts, IsMark, mark_bytes}
use Rattle.boot_requests.specs.StoredState.{first_mark_bytes, IsFirstMark}
use Rattle.boot_requests.specs.Apply.{kept_with}

abbrev pub mark_of : ℕ → List Outcome → MarkParts
mark_of next_number kept = record { next_number = next_number; kept = kept }

-- the mark of a state
abbrev pub mark_in : State → MarkParts
mark_in m = mark_of m.next_number m.kept

-- the mark after one more request, which has this outcome
abbrev pub mark_after : MarkParts → Outcome → MarkParts
mark_after mark outcome = mark_of (mark.next_number + 1) (kept_with mark.kept outcome)

-- the bytes of BootKeepState are those of this mark, by version 2
pub record SpellsMark (bytes : List ℕ) (mark : MarkParts) : Type 0 where
  pub some : 0 < mark.next_number
  pub is : IsMark mark.next_number mark.kept
  pub spelled : bytes ≡ mark_bytes mark.next_number mark.kept

-- the same by version 1
pub record SpellsFirstMark (bytes : List ℕ) (mark : MarkParts) : Type 0 where
  pub known : List Code
  pub is : IsFirstMark mark.next_number known
  pub kept : mark.kept ≡ map without_entry known
  pub spelled : bytes ≡ first_mark_bytes mark.next_number known

-- by either
abbrev pub IsMarkIn : List ℕ → MarkParts → Type 0
IsMarkIn bytes mark = SpellsMark bytes mark ⊎ SpellsFirstMark bytes mark

-- the bytes after the version are of this next number, of how many outcomes are kept, and of these
pub record SplitsMark (bytes : List ℕ) (next_number len : ℕ) (outcomes : List ℕ) : Type 0 where
  pub some : 0 < next_number
  pub four_bytes : next_number < 2 ^ 32
  pub parts : bytes ≡ to_le_bytes w32 next_number ++ (len ∷ outcomes)
