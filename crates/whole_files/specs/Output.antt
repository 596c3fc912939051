-- Under which name a file is written first that is to replace another.
use Rattle.std.specs.Prelude.{◌≡◌, ◌≢◌, ◌<◌, ◌≤◌, ℕ, Bool, true, false, List, ◌++◌, take, Some, codes, IsCharBoundary}
use Rattle.std.specs.Path.{path_file_name, path_with_file_name}

-- the last place, up to this number, at which a character of the text begins, or the text ends
abbrev pub IsLastBoundary : List ℕ → ℕ → ℕ → Type 0
IsLastBoundary text most end =
    (end ≤ most) × IsCharBoundary text end × ((later : ℕ) → end < later → later ≤ most → ¬ (IsCharBoundary text later))

-- the name of the new file for a file of this name: the characters of `.bootkeep-` and that name that fit in 255 bytes
abbrev pub IsNewName : List ℕ → List ℕ → Type 0
IsNewName name new =
    let whole = codes ".bootkeep-" ++ name in (end : ℕ) × IsLastBoundary whole 255 end × (new ≡ take end whole)

-- a path beside another one: it has the name of the new file in the folder of the other, which has another name
abbrev pub IsBeside : List ℕ → List ℕ → Type 0
IsBeside path beside = (name : List ℕ) × (new : List ℕ) × (path_file_name path ≡ Some name) × IsNewName name new
    × (new ≢ name) × (beside ≡ path_with_file_name path new)

-- which rights a new file keeps of those of the old one, if it has its owner, and if it has its group: all; without the bit
-- by which the owner's rights are lent; without the group's rights and the bit by which they are lent
abbrev pub kept_bits : Bool → Bool → ℕ
kept_bits true true = 4095
kept_bits false true = 2047
kept_bits true false = 3015
kept_bits false false = 967
