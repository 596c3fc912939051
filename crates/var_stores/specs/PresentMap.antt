-- For the private map of the records that are there.
use Rattle.std.specs.Prelude.{◌≡◌, ℕ, ◌&&◌, true, if◌then◌else◌, List, Option, Some, IfSome}
use Rattle.std.specs.Option.{option_map}
use Rattle.std.specs.BTreeMap.{BTreeMap, get_by}
use Rattle.std.specs.Global.{Vec}
use Rattle.std.specs.FinMap.{get}
use Rattle.uefi_vars.specs.Name.{IsName}
use Rattle.uefi_vars.specs.Vars.{Variables, name_cmp}
use Rattle.uefi_vars.specs.BootChange.{same_name}
use Rattle.var_stores.specs.declared.record.Record.{Record}
use Rattle.var_stores.specs.Record.{RecordParts, record_parts, IsRecord}
use Rattle.var_stores.specs.Present.{key_of, is_of, is_alive, stored_name, global_key, is_set_value}

-- the record under this key, if there is one
abbrev pub record_under : BTreeMap (Vec ℕ) Record → List ℕ → Option RecordParts
record_under present key = option_map record_parts (get_by (λ k. name_cmp key k.items) present)

-- each record is under its own key, and is alive
abbrev pub AreKeyed : BTreeMap (Vec ℕ) Record → Type 0
AreKeyed present = (key : List ℕ) → IfSome (record_under present key) (λ r. (key_of r ≡ key) × (is_alive r ≡ true))

-- each has the lengths that its header states
abbrev pub AreWhole : BTreeMap (Vec ℕ) Record → Type 0
AreWhole present = (key : List ℕ) → IfSome (record_under present key) IsRecord

-- the set has the value under the name that is stored so, if a set can hold the two, and else what it had before
abbrev pub PutsStored : Variables → Variables → List ℕ → List ℕ → Type 0
PutsStored old new stored value =
    (name : List ℕ) → IsName name → get new name ≡ (if same_name stored (stored_name name) && is_set_value value then Some value else get old name)

-- the set has the part of the record under its name, if the record is of the standard's vendor, and a set can hold its
-- value, and else what it had before
abbrev pub PutsRecord : Variables → Variables → RecordParts → List ℕ → Type 0
PutsRecord old new r part =
    (name : List ℕ) → IsName name → get new name ≡ (if is_of (global_key name) r && is_set_value r.value then Some part else get old name)
