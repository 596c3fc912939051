-- BootOrder and BootNext (UEFI 2.10, 3.3): which numbers are stored there.
use Rattle.std.specs.Prelude.{◌≡◌, ◌≢◌, ◌⊎◌, ℕ, ◌*◌, ◌%◌, ◌^◌, ◌<◌, ◌≤◌, List, [], ◌∷◌, length, Option, Some, None, IfSome}
use Rattle.std.specs.Option.{IsSomeAnd}
use Rattle.std.specs.List.{AllByRecursion}
use Rattle.std.specs.Int.{w16, to_le_bytes}
use Rattle.std.specs.FinMap.{get}
use Rattle.uefi_path.specs.Units.{units_bytes}
use Rattle.uefi_vars.specs.Name.{order_text, next_text}
use Rattle.uefi_vars.specs.Vars.{Variables}

-- the most numbers that BootOrder has: as many as there are names of entries
abbrev pub order_max : ℕ
order_max = 65536

-- the number of an entry
abbrev pub IsEntryNumber : ℕ → Type 0
IsEntryNumber number = number < 2 ^ 16

-- what is stored of an order: its numbers, two bytes each, and nothing if it is empty
abbrev pub stored_order : List ℕ → Option (List ℕ)
stored_order [] = None
stored_order (number ∷ numbers) = Some (units_bytes (number ∷ numbers))

-- what is stored of the entry that the next boot tries first, if there is one
abbrev pub stored_next : Option ℕ → Option (List ℕ)
stored_next None = None
stored_next (Some number) = Some (to_le_bytes w16 number)

-- at most 65,536 numbers
pub record IsOrder (order : List ℕ) : Type 0 where
  pub numbers : AllByRecursion IsEntryNumber order
  pub len : length order ≤ order_max

-- the variables have this BootOrder
pub record HasOrder (vars : Variables) (order : List ℕ) : Type 0 where
  pub is : IsOrder order
  pub stored : get vars order_text ≡ stored_order order

-- the variables have this BootNext
pub record HasNext (vars : Variables) (next : Option ℕ) : Type 0 where
  pub is : IfSome next IsEntryNumber
  pub stored : get vars next_text ≡ stored_next next

-- the bytes of BootOrder aren't numbers of two bytes each, or are too many
abbrev pub HasBadOrder : Variables → Type 0
HasBadOrder vars = IsSomeAnd (get vars order_text) (λ bytes. (length bytes % 2 ≢ 0) ⊎ (2 * order_max < length bytes))

-- the bytes of BootNext aren't a number of two bytes
abbrev pub HasBadNext : Variables → Type 0
HasBadNext vars = IsSomeAnd (get vars next_text) (λ bytes. length bytes ≢ 2)
