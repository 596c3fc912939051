-- The map of the records that are there, and one record more.
use Rattle.std.proofs.Common.{◌≡◌, ℕ, Bool, true, false, cond, ◌&&◌, not, List, Option, Some, None, IfSome, refl, sym, ap, subst, ◌∙◌}
use Rattle.std.specs.Option.{option_map, option_copied}
use Rattle.std.specs.Borrow.{Bor}
use Rattle.std.specs.Global.{Vec}
use Rattle.std.specs.BTreeMap.{BTreeMap, get_by, UpdatesBy}
use Rattle.std.specs.List.{AllByRecursion}
use Rattle.std.specs.Map.{KeepsOthers}
use Rattle.std.proofs.lemmas.Cmp.{nat_list_cmp_total, eq_by_cmp_equiv}
use Rattle.uefi_vars.specs.Vars.{name_cmp}
use Rattle.var_stores.specs.declared.record.Record.{Record}
use Rattle.var_stores.specs.Record.{RecordParts, record_parts, IsRecord}
use Rattle.uefi_vars.specs.BootChange.{same_name}
use Rattle.var_stores.specs.Present.{key_of, is_of, is_alive, is_added_there, found, found_with}
use Rattle.var_stores.specs.PresentMap.{record_under, AreWhole}
use Rattle.var_stores.proofs.Found.{found_after-all}
use Rattle.uefi_vars.proofs.NameTests.{same_name-is}

-- what is there stays if it was added, or the record isn't alive, or of another variable
module _ (key : List ℕ) (before : Option RecordParts) (r : RecordParts) where
  abbrev step : Bool → Option RecordParts
  step b = cond (b && not (is_added_there before)) (Some r) before

  pub stays_of_other : is_of key r ≡ false → before ≡ found_with key before r
  stays_of_other other = sym (ap (λ b. step (is_alive r && b)) other ∙ ap step (never (is_alive r)))
    where
      never : (b : Bool) → (b && false) ≡ false
      never true = refl
      never false = refl

  pub stays_added : is_added_there before ≡ true → before ≡ found_with key before r
  stays_added added = sym (ap (λ a. cond ((is_alive r && is_of key r) && not a) (Some r) before) added
      ∙ ap (λ b. cond b (Some r) before) (never (is_alive r && is_of key r)))
    where
      never : (b : Bool) → (b && false) ≡ false
      never true = refl
      never false = refl

  pub takes_over : is_alive r ≡ true → is_of key r ≡ true → is_added_there before ≡ false → Some r ≡ found_with key before r
  takes_over alive same added = sym (ap (λ b. step (b && is_of key r)) alive ∙ ap step same ∙ ap (λ a. cond (not a) (Some r) before) added)

is_of-or : (key : List ℕ) (r : RecordParts) (P : Bool → Type 0) → (is_of key r ≡ true → P true) → (is_of key r ≡ false → P false) → P (is_of key r)
is_of-or key r P same other = go (is_of key r) refl
  where
    go : (b : Bool) → is_of key r ≡ b → P b
    go true e = same e
    go false e = other e

-- the record of the same variable was added
pub kept_added : (present : BTreeMap (Vec ℕ) Record) (r : RecordParts) → is_added_there (record_under present (key_of r)) ≡ true →
    (key : List ℕ) → record_under present key ≡ found_with key (record_under present key) r
kept_added present r added key = is_of-or key r (λ b. record_under present key ≡ found_with key (record_under present key) r)
    (λ same. stays_added key (record_under present key) r (ap (λ k. is_added_there (record_under present k)) (same_name-is key (key_of r) same) ∙ added))
    (λ other. stays_of_other key (record_under present key) r other)

-- the record comes in the place of another, or of none
module _ (old new : BTreeMap (Vec ℕ) Record) (k : Vec ℕ) (r : Record)
    (updates : UpdatesBy (λ x y. name_cmp x.items y.items) (λ x. name_cmp k.items x.items) old new (Some r))
    (own : k.items ≡ key_of (record_parts r)) where
  others_stay : (key : List ℕ) → is_of key (record_parts r) ≡ false → record_under new key ≡ record_under old key
  unfolding KeepsOthers
  others_stay key other = ap (option_map record_parts) (updates.3 (λ x. same_name key x.items)
      (λ x y. (eq_by_cmp_equiv nat_list_cmp_total).congr key x.items y.items) apart)
    where
      apart : (x : Vec ℕ) → same_name k.items x.items ≡ true → same_name key x.items ≡ false
      apart x same = ap (same_name key) (sym (same_name-is k.items x.items same) ∙ own) ∙ other

  pub inserted : is_alive (record_parts r) ≡ true → is_added_there (record_under old (key_of (record_parts r))) ≡ false →
      (key : List ℕ) → record_under new key ≡ found_with key (record_under old key) (record_parts r)
  inserted alive added key = is_of-or key (record_parts r) (λ b. record_under new key ≡ found_with key (record_under old key) (record_parts r))
      (λ same.
      let is : key ≡ key_of (record_parts r) = same_name-is key (key_of (record_parts r)) same in
      ap (record_under new) (is ∙ sym own) ∙ ap (option_map record_parts) updates.1
      ∙ takes_over key (record_under old key) (record_parts r) alive same (ap (λ q. is_added_there (record_under old q)) is ∙ added))
      (λ other. others_stay key other ∙ stays_of_other key (record_under old key) (record_parts r) other)

-- what a look-up under a record's key gives
pub looked_up : (present : BTreeMap (Vec ℕ) Record) (slice own : List ℕ) (got : Option (Bor Record)) →
    option_copied got ≡ get_by (λ k. name_cmp slice k.items) present → slice ≡ own →
    record_under present own ≡ option_map record_parts (option_copied got)
looked_up present slice own got value is = sym (ap (option_map record_parts) (value ∙ ap (λ (key : List ℕ). get_by (λ k. name_cmp key k.items) present) is))

-- the records that are there are among all
pub are_whole : (present : BTreeMap (Vec ℕ) Record) (records : List RecordParts) →
    ((key : List ℕ) → record_under present key ≡ found key records) → AllByRecursion IsRecord records → AreWhole present
are_whole present records there whole key = subst (λ (o : Option RecordParts). IfSome o IsRecord) (sym (there key))
    (found_after-all key IsRecord None records whole tt)
