-- Orders of numbers, as edits make them of one another.
use Rattle.std.specs.Prelude.{ℕ, Bool, true, if◌then◌else◌, List, [], ◌∷◌, ◌++◌, Option, Some, None}
use Rattle.boot_requests.specs.Apply.{is_in}

-- the order with the number as its last one, unless it is there already
abbrev pub with_last : List ℕ → ℕ → List ℕ
with_last order number = if is_in order number then order else order ++ number ∷ []

-- the order, and behind it those of the others that pass the test and aren't there yet, one after the other
abbrev pub extended : (ℕ → Bool) → List ℕ → List ℕ → List ℕ
extended test order [] = order
extended test order (number ∷ others) = extended test (if test number then with_last order number else order) others

-- the numbers, each where it is first
abbrev pub each_once : List ℕ → List ℕ
each_once numbers = extended (λ number. true) [] numbers

-- no next entry if it was one of these
abbrev pub next_without_all : List ℕ → Option ℕ → Option ℕ
next_without_all numbers None = None
next_without_all numbers (Some next) = if is_in numbers next then None else Some next
