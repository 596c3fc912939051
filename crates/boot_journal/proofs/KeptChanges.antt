-- Changes of data alone, and the same changes of what is kept: what is kept has the attributes of what is there, can be stored if
-- there is room for them, and what is at fault in one change is so in the list.
use Rattle.std.proofs.Common.{◌≡◌, ℕ, zero, suc, ◌+◌, ◌<◌, ◌≤◌, true, List, [], ◌∷◌, ◌++◌, map, length, get_or, Option, Some, None, refl, ap, arith}
use Rattle.std.specs.List.{AllByRecursion}
use Rattle.std.specs.Option.{option_map}
use Rattle.std.specs.FinMap.{get}
use Rattle.std.proofs.lemmas.List.{length-append}
use Rattle.uefi_path.specs.Row.{IsByte}
use Rattle.uefi_vars.specs.Vars.{Variables, IsData, data_max}
use Rattle.uefi_vars.specs.BootChange.{ChangeParts, is_boot_name}
use Rattle.boot_journal.specs.declared.attributes.AttributesFault.{AttributesFault}
use Rattle.boot_journal.specs.declared.attributes.AttributesFault.TheVariants.{NoData, TooLong, OutOfMemory}
use Rattle.uefi_vars.specs.Attributes.{attributes_len}
use Rattle.boot_journal.specs.Attributes.{attributes_in}
use Rattle.boot_journal.specs.JournalAttributes.{value_kept, ChangeHasRoom, IsFaultOfChanges, IsFaultOfData}
use Rattle.boot_journal.proofs.WithAttributes.{four_bytes}

-- what is so of each of a list, at an index
pub each_at : {A : Type 0} (P : ChangeParts → Type 0) (f : A → ChangeParts) (xs : List A) (i : ℕ) (d : A) → AllByRecursion P (map f xs)
    → i < length xs → P (f (get_or xs i d))
each_at P f [] i d all within = absurd (omega (arith, within))
each_at P f (x ∷ xs) zero d all within = all.0
each_at P f (x ∷ xs) (suc i) d all within = each_at P f xs i d all.1 (omega (arith, within))

-- what is kept of data of the boot manager has the attributes of what is there
pub value_is : (there : Variables) (name : List ℕ) (at value : Option (List ℕ)) → is_boot_name name ≡ true → at ≡ get there name
    → option_map (λ v. attributes_in at ++ v) value ≡ value_kept there name value
value_is there name at None boot is = refl
value_is there name at (Some value) boot is = rw boot (ap (λ (o : Option (List ℕ)). Some (attributes_in o ++ value)) is)

-- what is kept can be stored
pub kept_IsData : (bytes value : List ℕ) (at : Option (List ℕ))
    → bytes ≡ attributes_in at ++ value → attributes_len + length value ≤ data_max → AllByRecursion IsByte bytes
    → IsData bytes
kept_IsData bytes value at is room fits =
    let size : length bytes ≡ 4 + length value = omega (arith, ap length is, length-append (attributes_in at) value, four_bytes at) in
    record {
      some = λ none. let empty : length bytes ≡ 0 = ap length none in omega (arith, size, empty);
      len = omega (arith, size, room);
      bytes = fits;
    }

pub before_fails : (c : ChangeParts) (f : AttributesFault) → IsFaultOfData c.before f → IsFaultOfChanges (c ∷ []) f
before_fails c NoData h = h
before_fails c TooLong h = λ all. h all.0.0
before_fails c OutOfMemory h = tt

pub after_fails : (c : ChangeParts) (f : AttributesFault) → IsFaultOfData c.after f → IsFaultOfChanges (c ∷ []) f
after_fails c NoData h = h
after_fails c TooLong h = λ all. h all.0.1
after_fails c OutOfMemory h = tt

-- what fails for one of the changes fails for all
pub one_fails : (cs : List ChangeParts) (i : ℕ) (d : ChangeParts) (f : AttributesFault) → i < length cs → IsFaultOfChanges (get_or cs i d ∷ []) f
    → IsFaultOfChanges cs f
one_fails cs i d NoData within h = h
one_fails cs i d TooLong within h = λ all. h (each_at ChangeHasRoom (λ (c : ChangeParts). c) cs i d (mapped cs all) within, tt)
  where
    mapped : (cs : List ChangeParts) → AllByRecursion ChangeHasRoom cs → AllByRecursion ChangeHasRoom (map (λ (c : ChangeParts). c) cs)
    mapped [] all = tt
    mapped (c ∷ cs) all = (all.0, mapped cs all.1)
one_fails cs i d OutOfMemory within h = tt
