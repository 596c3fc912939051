-- Lists of numbers, with each of them once.
use Rattle.std.specs.Prelude.{◌≡◌, ℕ, ◌==◌, Bool, List, [], ◌∷◌, ◌++◌, if◌then◌else◌}
use Rattle.std.specs.List.{list_any}
use Rattle.std.specs.BTreeSet.{BTreeSet, contains}
use Rattle.std.specs.Ordering.{nat_cmp}

-- whether the number is in the list
abbrev pub is_in : List ℕ → ℕ → Bool
is_in numbers number = list_any (λ other. other == number) numbers

-- the list with the number as its last one, unless it is there already
abbrev pub with_last : List ℕ → ℕ → List ℕ
with_last numbers number = if is_in numbers number then numbers else numbers ++ number ∷ []

-- the list, and behind it those of the others that aren't there yet, one after the other
abbrev pub distinct_from : List ℕ → List ℕ → List ℕ
distinct_from numbers [] = numbers
distinct_from numbers (number ∷ others) = distinct_from (with_last numbers number) others

-- the numbers, each where it comes first
abbrev pub distinct : List ℕ → List ℕ
distinct numbers = distinct_from [] numbers

-- the second list, and behind it those of the others that come again behind the first list
abbrev pub repeated_from : List ℕ → List ℕ → List ℕ → List ℕ
repeated_from met again [] = again
repeated_from met again (number ∷ others) =
    repeated_from (met ++ number ∷ []) (if is_in met number then again ++ number ∷ [] else again) others

-- those of the numbers that come again, each where it does so first
abbrev pub repeated : List ℕ → List ℕ
repeated numbers = distinct (repeated_from [] [] numbers)

-- ---- for private functions

-- the set has exactly these numbers
pub record Tells (set : BTreeSet ℕ) (numbers : List ℕ) : Type 0 where
  pub tells : (number : ℕ) → contains nat_cmp set number ≡ is_in numbers number
