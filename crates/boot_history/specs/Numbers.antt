-- The numbers of the records in a folder.
use Rattle.std.specs.Prelude.{◌≡◌, ◌⊎◌, ℕ, ◌+◌, ◌≤◌, List, [], String, string_bytes}
use Rattle.std.specs.Global.{Global}
use Rattle.std.specs.List.{All, Contains, filter_map}
use Rattle.std.specs.List.Sorted.{IsNonDecreasing, IsPermutation}
use Rattle.boot_history.specs.FileNames.{number_named}

-- the numbers that the names of files write, in the order of the names
abbrev pub numbers_named : List (String Global) → List ℕ
numbers_named names = filter_map (λ name. number_named (string_bytes name)) names

-- the numbers that the names write, each as often as they do, and none before a lesser one
pub record AreNumbersOf (names : List (String Global)) (numbers : List ℕ) : Type 0 where
  pub rising : IsNonDecreasing numbers
  pub same : IsPermutation (numbers_named names) numbers

-- it is one of the numbers, and none of them is greater
pub record IsGreatest (numbers : List ℕ) (last : ℕ) : Type 0 where
  pub one : Contains numbers last
  pub above : All (λ number. number ≤ last) numbers

-- the number of a new record: one above the greatest, or 1 if there is none
abbrev pub IsNext : List ℕ → ℕ → Type 0
IsNext numbers next = ((numbers ≡ []) × (next ≡ 1)) ⊎ ((last : ℕ) × IsGreatest numbers last × (next ≡ last + 1))
