-- The records of the variables that are there and that no set can hold.
use Rattle.std.proofs.Common.{◌≡◌, ◌↔◌, ℕ, ◌==◌, Bool, true, false, cond, not, ◌&&◌, List, [], ◌∷◌, ◌++◌, length, map, Option, Some, None}
use Rattle.std.proofs.Common.{IfSome, refl, sym, ap, subst, ◌∙◌, arith}
use Rattle.std.specs.Prelude.{nat_lt}
use Rattle.std.specs.Option.{option_map, option_map_or}
use Rattle.std.specs.Char.{is_ascii_graphic}
use Rattle.std.specs.FinMap.{get}
use Rattle.std.specs.Global.{Vec}
use Rattle.std.specs.List.{AllByRecursion, filter}
use Rattle.std.specs.BTreeMap.{BTreeMap, values, IsOrdered}
use Rattle.std.proofs.lemmas.Bool.{and_parts, not-true, not-false, true≢false, ltb-false}
use Rattle.std.proofs.lemmas.Map.Keys.{IsDistinct-from_sorted}
use Rattle.uefi_vars.specs.Name.{IsName, IsNameByte, name_max, global_vendor}
use Rattle.uefi_vars.specs.Vars.{Variables, name_cmp}
use Rattle.var_stores.specs.declared.record.Record.{Record}
use Rattle.var_stores.specs.Record.{RecordParts, record_parts, vendor_in}
use Rattle.var_stores.specs.Present.{stored_name, name_in, key_of, global_key, is_alive, found, is_set_value, set_data, is_set_name}
use Rattle.var_stores.specs.Present.{is_left_out, if_left_out, IsSetOf, AreLeftOut}
use Rattle.var_stores.specs.PresentMap.{record_under, AreKeyed}
use Rattle.uefi_vars.proofs.NameTests.{same_name-of}
use Rattle.var_stores.proofs.Found.{IsFoundAs, found_after-is}
use Rattle.var_stores.proofs.StoredNames.{name_if, some_is, name_in-stored_name, stored_name-name_in}
use Rattle.var_stores.proofs.GlobalKeys.{global_name}
use Rattle.var_stores.proofs.OfEachOne.{found-first, first_of-filter, if_passes}
use Rattle.var_stores.proofs.PresentValues.{records_sorted, records_of_each_one, first_under, records_alive}
use Rattle.var_stores.proofs.Kept.{filter-all, sorted-filter}

passes-if_left_out : (o : Option RecordParts) → if_passes is_left_out o ≡ if_left_out o
passes-if_left_out None = refl
passes-if_left_out (Some r) = refl

pub are_left_out : (present : BTreeMap (Vec ℕ) Record) → IsOrdered (λ x y. name_cmp x.items y.items) present → AreKeyed present →
    (records : List RecordParts) → ((key : List ℕ) → record_under present key ≡ found key records) →
    AreLeftOut records (filter is_left_out (map record_parts (values present)))
are_left_out present ordered keyed records all =
    let there = map record_parts (values present) in
    let left = filter is_left_out there in
    let order = sorted-filter is_left_out there (records_sorted present ordered keyed) in
    let alive = filter-all (λ r. is_alive r ≡ true) is_left_out there (records_alive present ordered keyed) in
    record {
      order = order;
      alive = alive;
      each = λ key.
          found-first key left (IsDistinct-from_sorted name_cmp (map key_of left) order) alive
          ∙ first_of-filter is_left_out key there (records_of_each_one present ordered keyed)
          ∙ ap (if_passes is_left_out) (first_under present ordered keyed key ∙ all key) ∙ passes-if_left_out (found key records);
    }

-- ---- what a set can hold

graphic : (n : ℕ) → is_ascii_graphic n ≡ true → IsNameByte n
graphic n is = (grind (arith, is), grind (arith, is))

-- the characters that are read of a stored name are those of names
printing : (stored name : List ℕ) → name_in stored ≡ Some name → AllByRecursion IsNameByte name
printing [] name e = absurd cc
printing (low ∷ []) name e = absurd cc
printing (low ∷ high ∷ stored) name e = go (λ rest is. printing stored rest is) ((high == 0) && is_ascii_graphic low) refl
  where
    with_more : ((rest : List ℕ) → name_in stored ≡ Some rest → AllByRecursion IsNameByte rest) → (more : Option (List ℕ)) → name_in stored ≡ more →
        option_map (λ rest. low ∷ rest) more ≡ Some name → is_ascii_graphic low ≡ true → AllByRecursion IsNameByte name
    with_more again None is none prints = absurd cc
    with_more again (Some rest) is some prints = subst (AllByRecursion IsNameByte) (some_is (low ∷ rest) name some) (graphic low prints, again rest is)

    at_end : (last : Bool) → cond last (Some []) None ≡ Some name → AllByRecursion IsNameByte name
    at_end true is = subst (AllByRecursion IsNameByte) (some_is [] name is) tt
    at_end false is = absurd cc

    go : ((rest : List ℕ) → name_in stored ≡ Some rest → AllByRecursion IsNameByte rest) → (b : Bool) →
        ((high == 0) && is_ascii_graphic low) ≡ b → AllByRecursion IsNameByte name
    go again true is = with_more again (name_in stored) refl (sym (ap (name_if low high stored) is) ∙ e) (and_parts (high == 0) (is_ascii_graphic low) is).1
    go again false is = at_end (((low == 0) && (high == 0)) && (length stored == 0)) (sym (ap (name_if low high stored) is) ∙ e)

abbrev is_long_enough : List ℕ → Bool
is_long_enough name = not (length name == 0) && not (nat_lt name_max (length name))

name_is : (stored name : List ℕ) → name_in stored ≡ Some name → is_long_enough name ≡ true → IsName name
name_is stored name e fits =
    let both = and_parts (not (length name == 0)) (not (nat_lt name_max (length name))) fits in
    record {
      some = λ none. true≢false (sym both.0 ∙ ap (λ (n : List ℕ). not (length n == 0)) none);
      len = ltb-false name_max (length name) (not-true (nat_lt name_max (length name)) both.1);
      printing = printing stored name e;
    }

name_fits : (name : List ℕ) → IsName name → is_long_enough name ≡ true
name_fits [] is = absurd (is.some refl)
name_fits (byte ∷ name) is = let len = is.len in grind (arith, len)

-- a set can have the name that is stored for it
pub set_name_fits : (name : List ℕ) → IsName name → is_set_name (stored_name name) ≡ true
set_name_fits name is = ap (λ (o : Option (List ℕ)). option_map_or is_long_enough o false) (name_in-stored_name name is.printing) ∙ name_fits name is

-- ---- a variable that is there is in the set or left out

module _ (records : List RecordParts) (vars : Variables) (key : List ℕ) (r : RecordParts)
    (is : IsSetOf records vars) (there : found key records ≡ Some r) (vendor : vendor_in r.header ≡ global_vendor) where
  own : key_of r ≡ key
  own = (subst (λ (o : Option RecordParts). IfSome o (IsFoundAs key)) there (found_after-is key None records tt)).0

  abbrev IsHeld : List ℕ → Type 0
  IsHeld name = IsName name × (key ≡ global_key name) × (get vars name ≡ Some r.value)

  set_has : (name : List ℕ) → IsName name → key ≡ global_key name → get vars name ≡ set_data (Some r)
  set_has name named e = is name named ∙ ap (λ (k : List ℕ). set_data (found k records)) (sym e) ∙ ap set_data there

  abbrev left_out_if : Bool → Bool → Bool → Bool
  left_out_if same value name = same && not (value && name)

  unless_held : is_left_out r ≡ not (is_set_value r.value && is_set_name r.name)
  unless_held = ap (λ b. left_out_if b (is_set_value r.value) (is_set_name r.name)) (same_name-of global_vendor (vendor_in r.header) (sym vendor))

  held : is_left_out r ≡ false → (name : List ℕ) × IsHeld name
  held kept = go (name_in r.name) refl both.1
    where
      both : (is_set_value r.value ≡ true) × (is_set_name r.name ≡ true)
      both = and_parts (is_set_value r.value) (is_set_name r.name) (not-false (is_set_value r.value && is_set_name r.name) (sym unless_held ∙ kept))

      go : (o : Option (List ℕ)) → name_in r.name ≡ o → option_map_or is_long_enough o false ≡ true → (name : List ℕ) × IsHeld name
      go None e fits = absurd (true≢false (sym fits))
      go (Some name) e fits =
          let named = name_is r.name name e fits in
          let same : key ≡ global_key name = sym own ∙ ap (λ (v : List ℕ). v ++ r.name) vendor
          ∙ ap (λ (n : List ℕ). global_vendor ++ n) (stored_name-name_in r.name name e) in
          (name, (named, same, set_has name named same ∙ ap (λ b. cond b (Some r.value) None) both.0))

  kept_of : (name : List ℕ) → IsHeld name → is_left_out r ≡ false
  kept_of name h =
      let value : is_set_value r.value ≡ true = some_of (is_set_value r.value) (sym (set_has name h.0 h.1) ∙ h.2) in
      let stored : r.name ≡ stored_name name = (global_name r name (ap length vendor) (sym h.1 ∙ sym own)).1 in
      let named : is_set_name r.name ≡ true =
      ap (λ (n : List ℕ). is_set_name n) stored ∙ set_name_fits name h.0 in
      unless_held ∙ ap (λ b. not (b && is_set_name r.name)) value ∙ ap not named
    where
      some_of : (b : Bool) → cond b (Some r.value) None ≡ Some r.value → b ≡ true
      some_of true e = refl
      some_of false e = absurd cc

pub held_or_left_out : (records : List RecordParts) (vars : Variables) (key : List ℕ) (r : RecordParts) → IsSetOf records vars →
    found key records ≡ Some r → vendor_in r.header ≡ global_vendor →
    (is_left_out r ≡ false) ↔ ((name : List ℕ) × IsName name × (key ≡ global_key name) × (get vars name ≡ Some r.value))
held_or_left_out records vars key r is there vendor = (
  λ kept. let found = held records vars key r is there vendor kept in (found.0, found.1.0, found.1.1, found.1.2),
  λ found. kept_of records vars key r is there vendor found.0 (found.1, found.2, found.3),
)
