-- What changes of the boot manager's variables from one set to another (UEFI 2.10, 3.3), one variable after the other.
use Rattle.std.specs.Prelude.{◌≡◌, ◌≢◌, ℕ, zero, suc, ◌^◌, ◌==◌, ◌||◌, ◌&&◌, not, Bool, true, false, if◌then◌else◌, List, [], ◌∷◌, ◌++◌}
use Rattle.std.specs.Prelude.{map, filter, Option, Some, None, Contains}
use Rattle.std.specs.Option.{option_eq, option_map}
use Rattle.std.specs.Int.{w16, from_le_bytes}
use Rattle.std.specs.Ordering.{eq_by_cmp}
use Rattle.std.specs.Cmp.Lexicographic.{pointwise}
use Rattle.std.specs.FinMap.{get, contains_key, keys}
use Rattle.uefi_path.specs.Units.{units_of}
use Rattle.uefi_vars.specs.Name.{entry_text, order_text, next_text, timeout_text}
use Rattle.uefi_vars.specs.Vars.{Variables, name_cmp, entry_of}
use Rattle.uefi_vars.specs.declared.boot_change.BootChange.{BootChange}

-- a variable of the boot manager: its name, its data before and after, or that it wasn't or isn't there
pub record ChangeParts : Type 0 where
  pub name : List ℕ
  pub before : Option (List ℕ)
  pub after : Option (List ℕ)

abbrev pub change_parts : BootChange → ChangeParts
change_parts change = record {
  name = change.name.now;
  before = option_map (λ bytes. bytes.now) change.before;
  after = option_map (λ bytes. bytes.now) change.after;
}

-- ---- names

abbrev pub same_name : List ℕ → List ℕ → Bool
same_name = eq_by_cmp name_cmp

-- whether it is the name of an entry with a number below the limit
unfoldable pub is_entry_name_below : ℕ → List ℕ → Bool
is_entry_name_below zero name = false
is_entry_name_below (suc number) name = same_name name (entry_text number) || is_entry_name_below number name

-- whether it is the name of an entry: Boot####
abbrev pub is_entry_name : List ℕ → Bool
is_entry_name name = is_entry_name_below (2 ^ 16) name

-- whether it is the name of a variable of the boot manager: Boot####, BootOrder, BootNext or Timeout
abbrev pub is_boot_name : List ℕ → Bool
is_boot_name name = is_entry_name name || (same_name name order_text || (same_name name next_text || same_name name timeout_text))

-- ---- the changes

-- two are equal, or there are no data of either
abbrev pub same_data : Option (List ℕ) → Option (List ℕ) → Bool
same_data = option_eq (pointwise ◌==◌)

-- whether the two have other data under the name, or one of them has none
abbrev pub differs : Variables → Variables → List ℕ → Bool
differs from to name = not (same_data (get from name) (get to name))

-- the entries that are new, or have new data, in the order of their names
abbrev pub put_names : Variables → Variables → List (List ℕ)
put_names from to = filter (λ name. is_entry_name name && differs from to name) (keys to)

-- the entries that are taken out, in the order of their names
abbrev pub removed_names : Variables → Variables → List (List ℕ)
removed_names from to = filter (λ name. is_entry_name name && not (contains_key to name)) (keys from)

-- this name alone, if there is a change under it
abbrev pub if_differs : Variables → Variables → List ℕ → List (List ℕ)
if_differs from to name = if differs from to name then name ∷ [] else []

-- the names under which there is a change: entries that are put, the order, the next entry, the timeout, and entries that are
-- taken out
abbrev pub changed_names : Variables → Variables → List (List ℕ)
changed_names from to =
    put_names from to ++ (if_differs from to order_text
    ++ (if_differs from to next_text ++ (if_differs from to timeout_text ++ removed_names from to)))

abbrev pub change_under : Variables → Variables → List ℕ → ChangeParts
change_under from to name = record { name = name; before = get from name; after = get to name }

-- the changes of the boot manager's variables from the one set to the other, in the order in which they are to be made
abbrev pub changes_from : Variables → Variables → List ChangeParts
changes_from from to = map (change_under from to) (changed_names from to)

-- a change of a variable of the boot manager, from what is in the one set to what is in the other, which isn't the same
pub record IsNeeded (from to : Variables) (change : ChangeParts) : Type 0 where
  pub boot : is_boot_name change.name ≡ true
  pub before : change.before ≡ get from change.name
  pub after : change.after ≡ get to change.name
  pub differ : change.before ≢ change.after

-- ---- what they lead to

-- changes as what is under each name then
abbrev pub new_data : List ChangeParts → List (List ℕ × Option (List ℕ))
new_data changes = map (λ change. (change.name, change.after)) changes

abbrev pub order_in : Option (List ℕ) → List ℕ
order_in None = []
order_in (Some bytes) = units_of bytes

-- the order has the number of an entry that isn't there
abbrev pub DanglesInOrder : Variables → ℕ → Type 0
DanglesInOrder vars number = Contains (order_in (get vars order_text)) number × (entry_of vars number ≡ None)

-- the next entry, whose number is in these bytes, is this one, and isn't there
abbrev pub DanglesAsNext : Variables → ℕ → Type 0
DanglesAsNext vars number =
    (bytes : List ℕ) × (get vars next_text ≡ Some bytes) × (from_le_bytes w16 bytes ≡ number) × (entry_of vars number ≡ None)
