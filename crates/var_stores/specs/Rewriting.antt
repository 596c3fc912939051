-- What becomes of a store if the boot manager's variables are to be those of a set.
use Rattle.std.specs.Prelude.{◌≡◌, ◌≢◌, ◌⊎◌, ℕ, ◌+◌, ◌-◌, ◌<◌, ◌≤◌, nat_lt, ◌==◌, ◌&&◌, not, Bool, true, false, if◌then◌else◌, List, []}
use Rattle.std.specs.Prelude.{◌∷◌, ◌++◌, length, map, take, drop, Option, Some, None}
use Rattle.std.specs.Option.{option_map_or, unwrap_or}
use Rattle.std.specs.List.{AllByRecursion, filter, flat_map}
use Rattle.std.proofs.Math.ListN.{replicate}
use Rattle.std.specs.List.Sorted.{IsStrictlySortedBy}
use Rattle.std.specs.Int.{w32, from_le_bytes, to_le_bytes}
use Rattle.std.specs.FinMap.{get, entries}
use Rattle.uefi_vars.specs.Vars.{Variables, name_cmp}
use Rattle.var_stores.specs.declared.fault.StoreFault.TheVariants as fault
use Rattle.var_stores.specs.declared.write_fault.WriteFault.{WriteFault}
use Rattle.var_stores.specs.declared.write_fault.WriteFault.TheVariants as write_fault
use Rattle.uefi_vars.specs.BootChange.{same_name, differs, is_boot_name}
use Rattle.var_stores.specs.Record.{RecordParts, vendor_in, attribute_bytes, blank, padding_len, record_bytes, BeginsRecord}
use Rattle.var_stores.specs.Volume.{area_of, StoreParts, SpellsStore, IsStoreFault}
use Rattle.uefi_vars.specs.Name.{global_vendor}
use Rattle.uefi_vars.specs.Attributes.{boot_attributes}
use Rattle.var_stores.specs.Present.{stored_name, name_in, key_of, global_key, is_alive, found, IsSetOf}

-- ---- which variables change

-- whether the variable of this name is one of the boot manager's, and the two sets have other data under it, or one of
-- them has none
abbrev pub is_rewritten : Variables → Variables → List ℕ → Bool
is_rewritten from to name = is_boot_name name && differs from to name

-- whether the record is one of a variable that changes
abbrev pub is_outdated : Variables → Variables → RecordParts → Bool
is_outdated from to r =
    is_alive r && (same_name global_vendor (vendor_in r.header) && option_map_or (is_rewritten from to) (name_in r.name) false)

-- ---- records in their places

-- the record as it is once it is deleted
abbrev pub deleted : RecordParts → RecordParts
deleted r = record { state = r.state - 2; header = r.header; name = r.name; value = r.value; padding = r.padding }

-- the records, of which those of variables that change are deleted
abbrev pub without_outdated : Variables → Variables → List RecordParts → List RecordParts
without_outdated from to records = map (λ r. if is_outdated from to r then deleted r else r) records

-- those of variables that don't change
abbrev pub unchanged : Variables → Variables → List RecordParts → List RecordParts
unchanged from to records = filter (λ r. not (is_outdated from to r)) records

-- ---- new records

-- those of the record that is replaced, if there is one
abbrev pub attributes_there : Option RecordParts → List ℕ
attributes_there None = boot_attributes
attributes_there (Some r) = attribute_bytes r.header

-- the first four of the bytes that are given, unless there are fewer, or they are what memory that wasn't written reads as
abbrev pub given_attributes : Option (List ℕ) → Option (List ℕ)
given_attributes None = None
given_attributes (Some given) =
    if nat_lt (length given) 4 then None
    else (if from_le_bytes w32 (take 4 given) == blank then None else Some (take 4 given))

-- those that are given, or else those of the record that is replaced
abbrev pub new_attributes : Option (List ℕ) → Option RecordParts → List ℕ
new_attributes given before = unwrap_or (given_attributes given) (attributes_there before)

-- the header after the state: its count, its time and the index of its key are zero
abbrev pub header_of : List ℕ → ℕ → ℕ → List ℕ
header_of attributes name_size value_size =
    0 ∷ (attributes ++ (replicate 28 0 ++ (to_le_bytes w32 name_size ++ (to_le_bytes w32 value_size ++ global_vendor))))

abbrev pub new_record : List ℕ → List ℕ → List ℕ → RecordParts
new_record attributes name value = record {
  state = 0x3F;
  header = header_of attributes (length (stored_name name)) (length value);
  name = stored_name name;
  value = value;
  padding = replicate (padding_len (length (stored_name name) + length value)) 0xFF;
}

-- a record for each of these variables that changes, with the attributes for its name
abbrev pub added : Variables → Variables → (List ℕ → List ℕ) → List (List ℕ × List ℕ) → List RecordParts
added from to attributes [] = []
added from to attributes (variable ∷ rest) =
    if is_rewritten from to variable.0 then new_record (attributes variable.0) variable.0 variable.1 ∷ added from to attributes rest
    else added from to attributes rest

-- a record for each variable that changes and is in the set, in the order of their names, with the attributes that are
-- given under its name, or else those of the record that is there
abbrev pub new_records : List RecordParts → Variables → Variables → Variables → List RecordParts
new_records records from to attributes =
    added from to (λ name. new_attributes (get attributes name) (found (global_key name) records)) (entries to)

abbrev pub new_bytes : List RecordParts → Variables → Variables → Variables → List ℕ
new_bytes records from to attributes = flat_map record_bytes (new_records records from to attributes)

-- ---- room

-- the records go to the start of the free bytes, and none begins with what is left of these
pub record Fits (new free : List ℕ) : Type 0 where
  pub room : length new ≤ length free
  pub stops : ¬ BeginsRecord (drop (length new) free)

-- the record, if there is one, and it isn't of a variable that changes
abbrev pub unless_outdated : Variables → Variables → Option RecordParts → Option RecordParts
unless_outdated from to None = None
unless_outdated from to (Some r) = if is_outdated from to r then None else Some r

-- the records of the variables that are there and don't change, in the order of their vendors and names
pub record AreKept (records : List RecordParts) (from to : Variables) (kept : List RecordParts) : Type 0 where
  pub order : IsStrictlySortedBy name_cmp (map key_of kept)
  pub alive : AllByRecursion (λ r. is_alive r ≡ true) kept
  pub each : (key : List ℕ) → found key kept ≡ unless_outdated from to (found key records)

-- ---- the file

-- new records are written to the free bytes
pub record IsAppended (from to attributes : Variables) (before after : StoreParts) : Type 0 where
  pub fits : Fits (new_bytes before.records from to attributes) before.free
  pub records : after.records ≡ without_outdated from to before.records ++ new_records before.records from to attributes
  pub free : after.free ≡ drop (length (new_bytes before.records from to attributes)) before.free

-- the records that are there and stay are moved together, and the new ones written after them
pub record IsMoved (from to attributes : Variables) (before after : StoreParts) : Type 0 where
  pub full : ¬ Fits (new_bytes before.records from to attributes) before.free
  pub kept : List RecordParts
  pub are : AreKept before.records from to kept
  pub records : after.records ≡ kept ++ new_records before.records from to attributes
  pub free : after.free ≡ replicate (length after.free) 0xFF

-- the bytes are the file once the boot manager's variables are those of the set `to`, and new records have the attributes
-- that are given
pub record IsWritten (file : List ℕ) (to attributes : Variables) (bytes : List ℕ) : Type 0 where
  pub before : StoreParts
  pub after : StoreParts
  pub was : SpellsStore file before
  pub is : SpellsStore bytes after
  pub head : after.head ≡ before.head
  pub rest : after.rest ≡ before.rest
  pub from : Variables
  pub from_is : IsSetOf before.records from
  pub records : IsAppended from to attributes before after ⊎ IsMoved from to attributes before after

-- the records that would be in the store have more bytes than it has for them
pub record IsFull (file : List ℕ) (to attributes : Variables) : Type 0 where
  pub before : StoreParts
  pub was : SpellsStore file before
  pub from : Variables
  pub from_is : IsSetOf before.records from
  pub full : ¬ Fits (new_bytes before.records from to attributes) before.free
  pub kept : List RecordParts
  pub are : AreKept before.records from to kept
  pub many : length (area_of file) < length (flat_map record_bytes kept ++ new_bytes before.records from to attributes)

-- why nothing is written: a fault of the file, or too little room, unless it is out of memory
abbrev pub IsWriteFault : List ℕ → Variables → Variables → WriteFault → Type 0
IsWriteFault file to attributes (write_fault.Store f) = IsStoreFault file f × (f ≢ fault.OutOfMemory)
IsWriteFault file to attributes write_fault.Full = IsFull file to attributes
IsWriteFault file to attributes write_fault.OutOfMemory = Unit {0}
