-- Which entries a start of firmware may write over or delete. Some firmware gives a new entry the lowest number that
-- neither BootOrder nor BootNext names, whether an entry is stored under it or not, and deletes what BootOrder names and
-- is no load option. Such firmware was seen; no rule of the standard asks for it.
use Rattle.std.specs.Prelude.{◌↔◌, ℕ, List, Contains, Some, IsSome}
use Rattle.std.specs.List.Sorted.{IsStrictlySortedBy}
use Rattle.std.specs.Ordering.{nat_cmp}
use Rattle.uefi_option.specs.LoadOption.{OptionParts}
use Rattle.uefi_vars.specs.Vars.{Variables, entry_of}
use Rattle.uefi_vars.specs.Order.{IsEntryNumber, HasOrder, HasNext}
use Rattle.uefi_vars.specs.Plan.{HasOption}

-- an entry is stored under the number, and neither BootOrder nor BootNext names it
pub record IsUnnamed (vars : Variables) (number : ℕ) : Type 0 where
  pub is : IsEntryNumber number
  pub stored : IsSome (entry_of vars number)
  pub in_no_order : (order : List ℕ) → HasOrder vars order → Contains order number → ⊥
  pub not_next : HasNext vars (Some number) → ⊥

-- BootOrder names the number, and what is stored under it is no load option
pub record IsUndecodable (vars : Variables) (number : ℕ) : Type 0 where
  pub order : List ℕ
  pub has_order : HasOrder vars order
  pub named : Contains order number
  pub stored : IsSome (entry_of vars number)
  pub no_option : (option : OptionParts) → HasOption (entry_of vars) number option → ⊥

-- the numbers rise strictly, and are those of which this is true
pub record AreThose (Is : ℕ → Type 0) (numbers : List ℕ) : Type 0 where
  pub rising : IsStrictlySortedBy nat_cmp numbers
  pub are : (number : ℕ) → Contains numbers number ↔ Is number
