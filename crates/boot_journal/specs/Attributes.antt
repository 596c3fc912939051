-- What a machine keeps under the name of a variable of the boot manager: its attributes, in four bytes, and then its
-- data, as a file of Linux's efivarfs shows the two (UEFI 2.10, 8.2). Under every other name it keeps data alone.
use Rattle.std.specs.Prelude.{◌≡◌, ℕ, ◌+◌, ◌<◌, ◌≤◌, leb, true, if◌then◌else◌, List, [], ◌++◌, length, map, take, drop, Option, Some, None, IfSome}
use Rattle.std.specs.FinMap.{get, entries, from_entries}
use Rattle.uefi_vars.specs.Vars.{Variables, data_max}
use Rattle.uefi_vars.specs.BootChange.{is_boot_name}
use Rattle.uefi_vars.specs.Attributes.{boot_attributes, attributes_len}
use Rattle.boot_journal.specs.declared.attributes.AttributesFault.{AttributesFault}
use Rattle.boot_journal.specs.declared.attributes.AttributesFault.TheVariants.{NoData, TooLong, OutOfMemory}

-- The attributes of what is there: its first four bytes. If nothing is there, or fewer bytes, those of a new variable.
abbrev pub attributes_in : Option (List ℕ) → List ℕ
attributes_in None = boot_attributes
attributes_in (Some kept) = if leb attributes_len (length kept) then take attributes_len kept else boot_attributes

-- the variables with other values: what is made of each name and of what is under it
abbrev pub with_values : (List ℕ → List ℕ → List ℕ) → Variables → Variables
with_values value vars = from_entries (map (λ variable. (variable.0, value variable.0 variable.1)) (entries vars))

-- ---- without attributes

-- the data in what is kept under this name
abbrev pub data_in : List ℕ → List ℕ → List ℕ
data_in name kept = if is_boot_name name then drop attributes_len kept else kept

-- the set of what a machine keeps: its variables with their data alone
abbrev pub data_of : Variables → Variables
data_of vars = with_values data_in vars

-- ---- with attributes

-- what is to be kept under this name of this data: with the attributes of what is there under it
abbrev pub kept_with : Variables → List ℕ → List ℕ → List ℕ
kept_with there name value = if is_boot_name name then attributes_in (get there name) ++ value else value

-- what is to be kept of a set: each variable with the attributes of what is there under its name
abbrev pub with_attributes : Variables → Variables → Variables
with_attributes there vars = with_values (kept_with there) vars

-- each variable of the boot manager that is in the second has the attributes of what is under its name in the first
abbrev pub KeepAttributes : Variables → Variables → Type 0
KeepAttributes from to = (name : List ℕ) → is_boot_name name ≡ true →
    IfSome (get to name) (λ kept. take attributes_len kept ≡ attributes_in (get from name))

-- what is under the name of each variable of the boot manager has attributes
abbrev pub HaveAttributes : Variables → Type 0
HaveAttributes vars = (name : List ℕ) → is_boot_name name ≡ true → IfSome (get vars name) (λ kept. attributes_len ≤ length kept)

-- ---- faults

-- what is under the name of a variable of the boot manager has no byte after its attributes
pub record HasNoData (vars : Variables) : Type 0 where
  pub name : List ℕ
  pub boot : is_boot_name name ≡ true
  pub kept : List ℕ
  pub there : get vars name ≡ Some kept
  pub short : length kept ≤ attributes_len

-- a variable of the boot manager has more data than a set takes together with its attributes
pub record HasLongData (vars : Variables) : Type 0 where
  pub name : List ℕ
  pub boot : is_boot_name name ≡ true
  pub value : List ℕ
  pub there : get vars name ≡ Some value
  pub long : data_max < attributes_len + length value

-- why attributes aren't taken off these variables
abbrev pub IsFaultWithout : Variables → AttributesFault → Type 0
IsFaultWithout vars NoData = HasNoData vars
IsFaultWithout vars TooLong = ⊥
IsFaultWithout vars OutOfMemory = Unit {0}

-- why attributes aren't put on these variables
abbrev pub IsFaultWith : Variables → AttributesFault → Type 0
IsFaultWith vars NoData = ⊥
IsFaultWith vars TooLong = HasLongData vars
IsFaultWith vars OutOfMemory = Unit {0}

-- for private functions: why a variable isn't set to these bytes
abbrev pub IsFaultOf : List ℕ → AttributesFault → Type 0
IsFaultOf bytes NoData = bytes ≡ []
IsFaultOf bytes TooLong = data_max < length bytes
IsFaultOf bytes OutOfMemory = Unit {0}
