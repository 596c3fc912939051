-- For private functions: what a set tells of numbers, and single steps of edits.
use Rattle.std.specs.Prelude.{◌≡◌, ◌⊎◌, ℕ, true, if◌then◌else◌, List, Option, Some, None}
use Rattle.std.specs.BTreeSet.{BTreeSet, contains}
use Rattle.std.specs.FinMap.{get, insert, remove}
use Rattle.std.specs.Ordering.{nat_cmp}
use Rattle.uefi_option.specs.LoadOption.{OptionParts}
use Rattle.uefi_vars.specs.Name.{entry_text, order_text, next_text}
use Rattle.uefi_vars.specs.NameChanges.{with_data}
use Rattle.uefi_vars.specs.Order.{IsEntryNumber, stored_order}
use Rattle.uefi_vars.specs.Vars.{Variables}
use Rattle.boot_requests.specs.Apply.{is_in}
use Rattle.boot_edits.specs.declared.addition.Position.{Position}
use Rattle.boot_edits.specs.declared.addition.Position.TheVariants.{First, Last, NoOrder}
use Rattle.boot_edits.specs.Addition.{HasPlaced, IsSameOption}

-- the set has exactly these numbers
pub record Tells (set : BTreeSet ℕ) (numbers : List ℕ) : Type 0 where
  pub tells : (number : ℕ) → contains nat_cmp set number ≡ is_in numbers number

-- ---- entries that are taken out

-- the entry of one of these numbers has the name
abbrev pub IsNameOf : List ℕ → List ℕ → Type 0
IsNameOf numbers name = (number : ℕ) × IsEntryNumber number × (is_in numbers number ≡ true) × (name ≡ entry_text number)

-- the second variables are the first without those names
pub record AreWithout (numbers : List ℕ) (from to : Variables) : Type 0 where
  pub out : (name : List ℕ) → IsNameOf numbers name → get to name ≡ None
  pub kept : (name : List ℕ) → (IsNameOf numbers name → ⊥) → get to name ≡ get from name

-- a variable of a set is copied, unless its name is skipped
abbrev pub IsStep : (List ℕ → Type 0) → Variables → List ℕ × List ℕ → Variables → Type 0
IsStep Skips old variable new =
    (Skips variable.0 × (new ≡ old)) ⊎ ((Skips variable.0 → ⊥) × (new ≡ insert old variable.0 variable.1))

-- BootNext is deleted if it is one of these, and otherwise nothing is changed
abbrev pub IsWithoutNext : List ℕ → Option ℕ → Variables → Variables → Type 0
IsWithoutNext numbers None old new = new ≡ old
IsWithoutNext numbers (Some next) old new = new ≡ (if is_in numbers next then remove old next_text else old)

-- ---- a number gets its place in BootOrder

abbrev pub IsStoredPlaced : Variables → Position → ℕ → Variables → Type 0
IsStoredPlaced old position number new =
    (order : List ℕ) × HasPlaced old position number order × (new ≡ with_data old order_text (stored_order order))

abbrev pub IsPlacedIn : Variables → Position → ℕ → Variables → Type 0
IsPlacedIn old First number new = IsStoredPlaced old First number new
IsPlacedIn old Last number new = IsStoredPlaced old Last number new
IsPlacedIn old NoOrder number new = new ≡ old

-- ---- the same load option

-- the variable is the entry of this number, and a load option with the description and the paths of this one
abbrev pub IsSameEntry : OptionParts → List ℕ × List ℕ → ℕ → Type 0
IsSameEntry option variable number =
    IsEntryNumber number × (variable.0 ≡ entry_text number) × IsSameOption option variable.1
