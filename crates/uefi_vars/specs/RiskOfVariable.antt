-- For private functions: of which entry at risk a variable tells.
use Rattle.std.specs.Prelude.{◌≡◌, ◌≢◌, ℕ, true, false, List, Contains, Option, Some}
use Rattle.std.specs.Ordering.{nat_cmp}
use Rattle.std.specs.BTreeSet.{BTreeSet, contains}
use Rattle.uefi_option.specs.LoadOption.{OptionParts, SpellsOption}
use Rattle.uefi_vars.specs.Name.{entry_text}
use Rattle.uefi_vars.specs.Order.{IsEntryNumber}

-- the variable is the entry of this number
pub record IsEntry (variable : List ℕ × List ℕ) (number : ℕ) : Type 0 where
  pub is : IsEntryNumber number
  pub name : variable.0 ≡ entry_text number

-- and the number is neither in the set nor the next one
pub record IsUnnamedEntry (named : BTreeSet ℕ) (next : Option ℕ) (variable : List ℕ × List ℕ) (number : ℕ) : Type 0 where
  pub entry : IsEntry variable number
  pub not_named : contains nat_cmp named number ≡ false
  pub not_next : next ≢ Some number

-- and the number is in the set, and the variable no load option
pub record IsUndecodableEntry (named : BTreeSet ℕ) (variable : List ℕ × List ℕ) (number : ℕ) : Type 0 where
  pub entry : IsEntry variable number
  pub is_named : contains nat_cmp named number ≡ true
  pub no_option : (option : OptionParts) → SpellsOption variable.1 option → ⊥

-- so it is of one of these variables
pub record IsOfSome (Is : List ℕ × List ℕ → ℕ → Type 0) (variables : List (List ℕ × List ℕ)) (number : ℕ) : Type 0 where
  pub variable : List ℕ × List ℕ
  pub among : Contains variables variable
  pub here : Is variable number
