-- What an edit makes of variables: the parts that the boot manager reads (UEFI 2.10, 3.3), each of which it keeps or changes,
-- and the variables of other names, which it keeps.
use Rattle.std.specs.Prelude.{◌≡◌, ◌≢◌, ◌⊎◌, ℕ, ◌==◌, if◌then◌else◌, Bool, List, [], Option, Some, is_some}
use Rattle.std.specs.FinMap.{get}
use Rattle.uefi_vars.specs.Name.{entry_text, order_text, next_text}
use Rattle.uefi_vars.specs.Order.{IsEntryNumber, HasOrder, HasBadOrder}
use Rattle.uefi_vars.specs.Vars.{Variables, entry_of}
use Rattle.boot_requests.specs.Apply.{is_in}

-- what is stored under each number of an entry, under BootOrder, and under BootNext
pub record BootParts : Type 0 where
  pub entries : ℕ → Option (List ℕ)
  pub order : Option (List ℕ)
  pub next : Option (List ℕ)

abbrev pub parts_of : Variables → BootParts
parts_of vars = record { entries = entry_of vars; order = get vars order_text; next = get vars next_text }

-- neither an entry nor BootOrder nor BootNext has this name
pub record IsOtherName (name : List ℕ) : Type 0 where
  pub entry : (number : ℕ) → IsEntryNumber number → name ≢ entry_text number
  pub order : name ≢ order_text
  pub next : name ≢ next_text

-- the second variables have these parts, and under other names what the first have there
pub record Becomes (from : Variables) (parts : BootParts) (to : Variables) : Type 0 where
  pub entries : (number : ℕ) → IsEntryNumber number → entry_of to number ≡ parts.entries number
  pub order : get to order_text ≡ parts.order
  pub next : get to next_text ≡ parts.next
  pub others : (name : List ℕ) → IsOtherName name → get to name ≡ get from name

-- ---- what edits make of entries

-- one of them gets these bytes
abbrev pub entries_with : ℕ → List ℕ → (ℕ → Option (List ℕ)) → ℕ → Option (List ℕ)
entries_with new bytes entries number = if new == number then Some bytes else entries number

-- those of these numbers are changed so: to other bytes, or to none
abbrev pub entries_changed : List ℕ → (Option (List ℕ) → Option (List ℕ)) → (ℕ → Option (List ℕ)) → ℕ → Option (List ℕ)
entries_changed numbers change entries number = if is_in numbers number then change (entries number) else entries number

-- ---- what edits look at

-- whether an entry is stored under the number, whatever its bytes are
abbrev pub is_stored : Variables → ℕ → Bool
is_stored vars number = is_some (entry_of vars number)

-- the order of the variables; one that can't be read counts as empty
abbrev pub IsOldOrder : Variables → List ℕ → Type 0
IsOldOrder vars order = HasOrder vars order ⊎ (HasBadOrder vars × (order ≡ []))
