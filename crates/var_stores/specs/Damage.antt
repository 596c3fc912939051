-- What isn't erased behind the records of a store.
use Rattle.std.specs.Prelude.{◌≡◌, ◌≢◌, ◌⊎◌, ℕ, suc, ◌+◌, ◌^◌, ◌<◌, ◌==◌, not, List, [], ◌∷◌, ◌++◌, drop, Option, Some}
use Rattle.std.specs.List.{AllByRecursion, position}
use Rattle.var_stores.specs.Record.{RecordParts, IsRecord, record_bytes}

-- all bytes are what erased memory reads as
abbrev pub AreErased : List ℕ → Type 0
AreErased bytes = AllByRecursion (λ byte. byte ≡ 0xFF) bytes

-- the first byte of a record was written, and nothing after it
abbrev pub HasBegun : List ℕ → Type 0
HasBegun [] = ⊥
HasBegun (first ∷ rest) = (first ≡ 0xAA) × AreErased rest

-- nothing was written, or no more than the first byte of a record
abbrev pub IsUnwritten : List ℕ → Type 0
IsUnwritten bytes = AreErased bytes ⊎ HasBegun bytes

-- the index of the first byte that isn't, if there is one
abbrev pub first_written : List ℕ → Option ℕ
first_written bytes = position (λ byte. not (byte == 0xFF)) bytes

-- a record begins with the bytes, has the lengths that its header states, and the others follow it
pub record IsAfterRecord (bytes rest : List ℕ) : Type 0 where
  pub first : RecordParts
  pub whole : IsRecord first
  pub is : bytes ≡ record_bytes first ++ rest

-- no record begins with the bytes and ends among them
abbrev pub BeginsNone : List ℕ → Type 0
BeginsNone bytes = (rest : List ℕ) → IsAfterRecord bytes rest → ⊥

-- There are so many records among the bytes. Where one begins, the next is looked for right after it, and elsewhere four
-- bytes on.
pub data CountsRecords : List ℕ → ℕ → Type 0 where
  at_end : CountsRecords [] 0
  one_more : {bytes rest : List ℕ} {count : ℕ} → IsAfterRecord bytes rest → CountsRecords rest count → CountsRecords bytes (suc count)
  none_here : {bytes : List ℕ} {count : ℕ} → bytes ≢ [] → BeginsNone bytes → CountsRecords (drop 4 bytes) count → CountsRecords bytes count

-- The first byte that isn't erased is at the place, of bytes that begin at an offset of their file, and so many records are
-- among them. None begins before the place, since a record's first byte isn't erased.
pub record IsDamage (free_at : ℕ) (free : List ℕ) (place records : ℕ) : Type 0 where
  pub erased : ℕ
  pub first : first_written free ≡ Some erased
  pub place_is : free_at + erased < 2 ^ 64 → place ≡ free_at + erased
  pub counts : CountsRecords free records
