-- Which number of an entry is the least that is free (UEFI 2.10, 3.3). What is stored under the numbers of entries is seen
-- as a function.
use Rattle.std.specs.Prelude.{◌≡◌, ℕ, ◌<◌, List, Option, Some, None, IsSome}
use Rattle.uefi_vars.specs.Order.{IsEntryNumber}

-- nothing is stored under the number, and something is under each lower one
pub record IsLowestFree (entries : ℕ → Option (List ℕ)) (number : ℕ) : Type 0 where
  pub is : IsEntryNumber number
  pub free : entries number ≡ None
  pub taken : (lower : ℕ) → lower < number → IsSome (entries lower)

-- this is the least free number, or there is none: something is stored under each number
abbrev pub IsLowestFreeIfAny : (ℕ → Option (List ℕ)) → Option ℕ → Type 0
IsLowestFreeIfAny entries (Some number) = IsLowestFree entries number
IsLowestFreeIfAny entries None = (number : ℕ) → IsEntryNumber number → IsSome (entries number)
