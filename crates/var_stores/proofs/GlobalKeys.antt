-- The keys of the standard's variables.
use Rattle.std.proofs.Common.{◌≡◌, ℕ, ◌-◌, Bool, true, false, cond, ◌&&◌, List, length, ◌++◌, Some, refl, sym, ap, ◌∙◌}
use Rattle.std.proofs.lemmas.List.{length-drop}
use Rattle.std.proofs.lemmas.Bool.{false_from_ne_true}
use Rattle.std.specs.FinMap.{get}
use Rattle.uefi_vars.specs.Vars.{Variables}
use Rattle.var_stores.specs.Record.{RecordParts, vendor_in, IsRecord}
use Rattle.uefi_vars.specs.BootChange.{same_name}
use Rattle.uefi_vars.specs.Name.{global_vendor}
use Rattle.var_stores.specs.Present.{stored_name, key_of, global_key, is_of, is_set_value}
use Rattle.var_stores.specs.PresentMap.{PutsStored, PutsRecord}
use Rattle.uefi_vars.proofs.NameTests.{same_name-is, same_name-of}
use Rattle.var_stores.proofs.Records.{same_size}

same_truth : (a b : Bool) → (a ≡ true → b ≡ true) → (b ≡ true → a ≡ true) → a ≡ b
same_truth true b there back = sym (there refl)
same_truth false b there back = sym (false_from_ne_true b (λ e. let back = back e in cc))

pub vendor_len : (r : RecordParts) → IsRecord r → length (vendor_in r.header) ≡ 16
vendor_len r is = length-drop 41 r.header ∙ ap (λ n. n - 41) is.header

pub global_name : (r : RecordParts) (name : List ℕ) → length (vendor_in r.header) ≡ 16 → global_key name ≡ key_of r →
    (vendor_in r.header ≡ global_vendor) × (r.name ≡ stored_name name)
global_name r name len same =
    let parts = same_size global_vendor (vendor_in r.header) (stored_name name) r.name (sym len) same in (sym parts.0, sym parts.1)

pub is_of-global : (r : RecordParts) (name : List ℕ) → vendor_in r.header ≡ global_vendor → is_of (global_key name) r ≡ same_name r.name (stored_name name)
is_of-global r name vendor = same_truth (is_of (global_key name) r) (same_name r.name (stored_name name))
    (λ same. same_name-of r.name (stored_name name) (global_name r name (ap length vendor) (same_name-is (global_key name) (key_of r) same)).1)
    (λ same. same_name-of (global_key name) (key_of r)
    (ap (λ (n : List ℕ). global_vendor ++ n) (sym (same_name-is r.name (stored_name name) same)) ∙ ap (λ (v : List ℕ). v ++ r.name) (sym vendor)))

pub is_of-foreign : (r : RecordParts) (name : List ℕ) → length (vendor_in r.header) ≡ 16 →
    (vendor_in r.header ≡ global_vendor → ⊥) → is_of (global_key name) r ≡ false
is_of-foreign r name len other =
    false_from_ne_true (is_of (global_key name) r) (λ same. other (global_name r name len (same_name-is (global_key name) (key_of r) same)).0)

-- what a set has once a part of the record of a variable of the standard was put into it
pub puts_global : (old new : Variables) (r : RecordParts) (part : List ℕ) → vendor_in r.header ≡ global_vendor →
    is_set_value part ≡ is_set_value r.value → PutsStored old new r.name part →
    PutsRecord old new r part
puts_global old new r part vendor held puts name is =
    puts name is ∙ ap (λ b. cond (same_name r.name (stored_name name) && b) (Some part) (get old name)) held
    ∙ ap (λ b. cond (b && is_set_value r.value) (Some part) (get old name)) (sym (is_of-global r name vendor))

-- or of one of another vendor
pub puts_foreign : (vars : Variables) (r : RecordParts) (part : List ℕ) → length (vendor_in r.header) ≡ 16 →
    (vendor_in r.header ≡ global_vendor → ⊥) → (name : List ℕ) →
    get vars name ≡ cond (is_of (global_key name) r && is_set_value r.value) (Some part) (get vars name)
puts_foreign vars r part len other name = ap (λ b. cond (b && is_set_value r.value) (Some part) (get vars name)) (sym (is_of-foreign r name len other))
