-- Which records of a store are the variables that are there, and which of these a set has.
use Rattle.std.specs.Prelude.{◌≡◌, ℕ, ◌==◌, nat_lt, ◌||◌, ◌&&◌, not, Bool, true, false, if◌then◌else◌, List, [], ◌∷◌, ◌++◌, length, map, Option, Some, None}
use Rattle.std.specs.Option.{option_map, option_map_or}
use Rattle.std.specs.Char.{is_ascii_graphic}
use Rattle.std.specs.FinMap.{get}
use Rattle.std.specs.List.{AllByRecursion}
use Rattle.std.specs.List.Sorted.{IsStrictlySortedBy}
use Rattle.uefi_vars.specs.Name.{name_max, IsName, global_vendor}
use Rattle.uefi_vars.specs.Vars.{Variables, name_cmp, data_max}
use Rattle.uefi_vars.specs.BootChange.{same_name}
use Rattle.var_stores.specs.Record.{RecordParts, vendor_in, attribute_bytes}

-- ---- names

-- a name as it is stored: each character as a CHAR16 unit, and then a zero unit
abbrev pub stored_name : List ℕ → List ℕ
stored_name [] = 0 ∷ 0 ∷ []
stored_name (byte ∷ name) = byte ∷ 0 ∷ stored_name name

-- the name that is stored so, each of whose characters is ASCII that prints, and no blank
abbrev pub name_in : List ℕ → Option (List ℕ)
name_in (low ∷ high ∷ stored) =
    if (high == 0) && is_ascii_graphic low then option_map (λ name. low ∷ name) (name_in stored)
    else if ((low == 0) && (high == 0)) && (length stored == 0) then Some [] else None
name_in _ = None

-- ---- which record is there

-- of which variable a record is: the vendor's GUID, and then the name, both as they are stored
abbrev pub key_of : RecordParts → List ℕ
key_of r = vendor_in r.header ++ r.name

abbrev pub is_of : List ℕ → RecordParts → Bool
is_of key r = same_name key (key_of r)

-- the state of a variable that was added
abbrev pub is_added : RecordParts → Bool
is_added r = r.state == 0x3F

-- or of one that is being replaced
abbrev pub is_alive : RecordParts → Bool
is_alive r = is_added r || (r.state == 0x3E)

abbrev pub is_added_there : Option RecordParts → Bool
is_added_there None = false
is_added_there (Some r) = is_added r

-- the record of the variable among those found before and one more: one that was added stays, and another gives way
abbrev pub found_with : List ℕ → Option RecordParts → RecordParts → Option RecordParts
found_with key found r = if (is_alive r && is_of key r) && not (is_added_there found) then Some r else found

-- the same with more records, one after the other
abbrev pub found_after : List ℕ → Option RecordParts → List RecordParts → Option RecordParts
found_after key found [] = found
found_after key found (r ∷ records) = found_after key (found_with key found r) records

-- the record of the variable that is there, if there is one: the first that was added, or else the last that is being
-- replaced
abbrev pub found : List ℕ → List RecordParts → Option RecordParts
found key records = found_after key None records

-- the value of the variable of this vendor and this name that is there, if it is
abbrev pub value_there : List ℕ → List ℕ → List RecordParts → Option (List ℕ)
value_there vendor name records = option_map (λ r. r.value) (found (vendor ++ stored_name name) records)

-- ---- the variables of the standard's names as a set

-- whether a set can hold this value
abbrev pub is_set_value : List ℕ → Bool
is_set_value value = not (length value == 0) && not (nat_lt data_max (length value))

-- a part of a record, if a set can hold the record's value
abbrev pub set_part : (RecordParts → List ℕ) → Option RecordParts → Option (List ℕ)
set_part part None = None
set_part part (Some r) = if is_set_value r.value then Some (part r) else None

-- the value of a record, if a set can hold it
abbrev pub set_data : Option RecordParts → Option (List ℕ)
set_data o = set_part (λ r. r.value) o

-- the bytes of its attributes, if a set can hold its value
abbrev pub set_attributes : Option RecordParts → Option (List ℕ)
set_attributes o = set_part (λ r. attribute_bytes r.header) o

-- that of the standard's variable of this name
abbrev pub global_key : List ℕ → List ℕ
global_key name = global_vendor ++ stored_name name

-- what a set has under this name
abbrev pub data_there : List RecordParts → List ℕ → Option (List ℕ)
data_there records name = set_data (found (global_key name) records)

-- the set has what is there under each name that a set can have
abbrev pub IsSetOf : List RecordParts → Variables → Type 0
IsSetOf records vars = (name : List ℕ) → IsName name → get vars name ≡ data_there records name

-- the set has, under each name under which that set has a value, the attributes of the record that is there
abbrev pub AreAttributesOf : List RecordParts → Variables → Type 0
AreAttributesOf records vars = (name : List ℕ) → IsName name → get vars name ≡ set_attributes (found (global_key name) records)

-- ---- the variables of the standard's vendor that no set can hold

-- whether a set can have the name that is stored so
abbrev pub is_set_name : List ℕ → Bool
is_set_name stored = option_map_or (λ name. not (length name == 0) && not (nat_lt name_max (length name))) (name_in stored) false

-- whether the record is of that vendor, and no set can hold its value under its name
abbrev pub is_left_out : RecordParts → Bool
is_left_out r = same_name global_vendor (vendor_in r.header) && not (is_set_value r.value && is_set_name r.name)

-- the record, if there is one, and it is left out
abbrev pub if_left_out : Option RecordParts → Option RecordParts
if_left_out None = None
if_left_out (Some r) = if is_left_out r then Some r else None

-- the records of the variables that are there and are left out, each once, in the order of their names
pub record AreLeftOut (records left : List RecordParts) : Type 0 where
  pub order : IsStrictlySortedBy name_cmp (map key_of left)
  pub alive : AllByRecursion (λ r. is_alive r ≡ true) left
  pub each : (key : List ℕ) → found key left ≡ if_left_out (found key records)
