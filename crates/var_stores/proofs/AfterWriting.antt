-- What is there once the boot manager's variables were written.
use Rattle.std.proofs.Common.{◌≡◌, ◌≢◌, ◌⊎◌, ℕ, ◌-◌, Bool, true, false, cond, ◌&&◌, not, List, [], ◌∷◌, ◌++◌, length, Option, Some, None}
use Rattle.std.proofs.Common.{IfSome, inl, inr, refl, sym, ap, subst, ◌∙◌, arith}
use Rattle.std.specs.Option.{option_map, option_map_or}
use Rattle.std.specs.List.{AllByRecursion}
use Rattle.std.specs.FinMap.{get, entries, find, get-entries}
use Rattle.std.proofs.lemmas.Bool.{and_parts, false_from_ne_true, false≢true, true≢false, not-false}
use Rattle.uefi_vars.specs.Name.{IsName, global_vendor}
use Rattle.uefi_vars.specs.Vars.{Variables, name_cmp}
use Rattle.var_stores.specs.Record.{RecordParts, vendor_in, IsRecord}
use Rattle.uefi_vars.specs.BootChange.{same_name, is_boot_name, same_data, differs}
use Rattle.var_stores.specs.Present.{stored_name, name_in, key_of, global_key, is_of, is_alive, is_added_there, found_with, found_after}
use Rattle.var_stores.specs.Present.{found, is_set_value, set_data, is_set_name, is_left_out, if_left_out, IsSetOf}
use Rattle.var_stores.specs.Rewriting.{is_rewritten, is_outdated, deleted, without_outdated, unless_outdated, new_attributes, new_record}
use Rattle.var_stores.specs.Rewriting.{added, new_records, AreKept, IsWritten}
use Rattle.uefi_vars.proofs.NameTests.{same_name-is, same_name-of}
use Rattle.uefi_vars.proofs.Members.{same_data-is}
use Rattle.var_stores.proofs.Found.{IsFoundAs, found_after-append, found_after-added, found_after-is, found_after-all}
use Rattle.var_stores.proofs.GlobalKeys.{vendor_len, global_name}
use Rattle.var_stores.proofs.PresentRecords.{stays_of_other, takes_over}
use Rattle.var_stores.proofs.Records.{same_size}
use Rattle.var_stores.proofs.StoredNames.{name_in-stored_name, stored_name-name_in, stored_name-same}
use Rattle.var_stores.proofs.WholeRecords.{alive_state, attributes-new}
use Rattle.var_stores.proofs.LeftOut.{set_name_fits}

same_end : (a b : List ℕ) → global_vendor ++ a ≡ global_vendor ++ b → a ≡ b
same_end a b e = (same_size global_vendor global_vendor a b refl e).1

-- ---- records of a variable, and whether they are outdated

-- a record of a variable of the standard that is alive is outdated if the variable changes
outdated_is : (from to : Variables) (r : RecordParts) (name : List ℕ) → IsRecord r → IsName name → is_alive r ≡ true →
    key_of r ≡ global_key name → is_outdated from to r ≡ is_rewritten from to name
outdated_is from to r name whole is alive key =
    let parts = global_name r name (vendor_len r whole) (sym key) in
    ap (λ b. b && (same_name global_vendor (vendor_in r.header) && option_map_or (is_rewritten from to) (name_in r.name) false)) alive
    ∙ ap (λ b. b && option_map_or (is_rewritten from to) (name_in r.name) false) (same_name-of global_vendor (vendor_in r.header) (sym parts.0))
    ∙ ap (λ n. option_map_or (is_rewritten from to) n false) (ap name_in parts.1 ∙ name_in-stored_name name is.printing)

-- an outdated record is of a variable of the boot manager
of_boot : (from to : Variables) (r : RecordParts) → is_outdated from to r ≡ true →
    (is_alive r ≡ true) × (name : List ℕ) × (is_rewritten from to name ≡ true) × (key_of r ≡ global_key name)
of_boot from to r outdated =
    let first = and_parts (is_alive r) (same_name global_vendor (vendor_in r.header) && option_map_or (is_rewritten from to) (name_in r.name) false) outdated in
    let second = and_parts (same_name global_vendor (vendor_in r.header)) (option_map_or (is_rewritten from to) (name_in r.name) false) first.1 in
    let named = go (name_in r.name) refl second.1 in (
      first.0,
      named.0,
      named.1,
      ap (λ (v : List ℕ). v ++ r.name) (sym (same_name-is global_vendor (vendor_in r.header) second.0))
          ∙ ap (λ (n : List ℕ). global_vendor ++ n) named.2,
    )
  where
    go : (n : Option (List ℕ)) → name_in r.name ≡ n → option_map_or (is_rewritten from to) n false ≡ true →
        (name : List ℕ) × (is_rewritten from to name ≡ true) × (r.name ≡ stored_name name)
    go None e none = absurd (false≢true none)
    go (Some name) e some = (name, some, stored_name-name_in r.name name e)

not_alive : (r : RecordParts) → is_alive r ≡ true → is_alive (deleted r) ≡ false
not_alive r alive = elim (alive_state r alive) [
  | inl e ↦ ap (λ n. is_alive (record { state = n - 2; header = r.header; name = r.name; value = r.value; padding = r.padding })) e
  | inr e ↦ ap (λ n. is_alive (record { state = n - 2; header = r.header; name = r.name; value = r.value; padding = r.padding })) e
]

dead : (key : List ℕ) (before : Option RecordParts) (r : RecordParts) → is_alive r ≡ false → found_with key before r ≡ before
dead key before r e = ap (λ b. cond ((b && is_of key r) && not (is_added_there before)) (Some r) before) e

-- ---- records in their places

-- a variable that doesn't change is found as before
pub stays : (from to : Variables) (key : List ℕ) (before : Option RecordParts) (records : List RecordParts) →
    ((r : RecordParts) → is_outdated from to r ≡ true → is_of key r ≡ true → ⊥) →
    found_after key before (without_outdated from to records) ≡ found_after key before records
stays from to key before [] apart = refl
stays from to key before (r ∷ records) apart =
    ap (λ o. found_after key o (without_outdated from to records)) (one (is_outdated from to r) refl)
    ∙ stays from to key (found_with key before r) records apart
  where
    one : (b : Bool) → is_outdated from to r ≡ b → found_with key before (cond b (deleted r) r) ≡ found_with key before r
    one false e = refl
    one true e =
        dead key before (deleted r) (not_alive r (of_boot from to r e).0) ∙ stays_of_other key before r (false_from_ne_true (is_of key r) (apart r e))

-- one that changes isn't found any more
pub goes : (from to : Variables) (name : List ℕ) (records : List RecordParts) → AllByRecursion IsRecord records → IsName name →
    is_rewritten from to name ≡ true →
    found (global_key name) (without_outdated from to records) ≡ None
goes from to name [] whole is rewritten = refl
goes from to name (r ∷ records) whole is rewritten =
    ap (λ o. found_after (global_key name) o (without_outdated from to records)) (one (is_outdated from to r) refl)
    ∙ goes from to name records whole.1 is rewritten
  where
    alive_one : (b c : Bool) → is_alive r ≡ b → is_of (global_key name) r ≡ c → is_outdated from to r ≡ false → found_with (global_key name) None r ≡ None
    alive_one false c a o e = dead (global_key name) None r a
    alive_one true false a o e = sym (stays_of_other (global_key name) None r o)
    alive_one true true a o e =
        absurd (false≢true (sym e ∙ outdated_is from to r name whole.0 is a (sym (same_name-is (global_key name) (key_of r) o)) ∙ rewritten))

    one : (b : Bool) → is_outdated from to r ≡ b → found_with (global_key name) None (cond b (deleted r) r) ≡ None
    one true e = dead (global_key name) None (deleted r) (not_alive r (of_boot from to r e).0)
    one false e = alive_one (is_alive r) (is_of (global_key name) r) refl refl e

-- ---- new records

-- a new record is of the variable of its name
pub key_of_new : (attributes name value : List ℕ) → length attributes ≡ 4 → key_of (new_record attributes name value) ≡ global_key name
key_of_new [] name value four = absurd (omega (arith, four))
key_of_new (a ∷ []) name value four = absurd (omega (arith, four))
key_of_new (a ∷ b ∷ []) name value four = absurd (omega (arith, four))
key_of_new (a ∷ b ∷ c ∷ []) name value four = absurd (omega (arith, four))
key_of_new (a ∷ b ∷ c ∷ d ∷ []) name value four = refl
key_of_new (a ∷ b ∷ c ∷ d ∷ e ∷ rest) name value four = absurd (omega (arith, four))

module _ (from to : Variables) (of : List ℕ → List ℕ) (four : (name : List ℕ) → length (of name) ≡ 4) where
  abbrev made : List ℕ → List ℕ → RecordParts
  made name value = new_record (of name) name value

  key_of_made : (name value : List ℕ) → key_of (made name value) ≡ global_key name
  key_of_made name value = key_of_new (of name) name value (four name)

  -- one that is of no new record's name is found as before
  pub added_others : (key : List ℕ) (before : Option RecordParts) (variables : List (List ℕ × List ℕ)) →
      ((name : List ℕ) → is_rewritten from to name ≡ true → key ≡ global_key name → ⊥) → found_after key before (added from to of variables) ≡ before
  added_others key before [] apart = refl
  added_others key before (variable ∷ rest) apart = one (added_others key before rest apart) (is_rewritten from to variable.0) refl
    where
      one : found_after key before (added from to of rest) ≡ before → (b : Bool) → is_rewritten from to variable.0 ≡ b →
          found_after key before (cond b (made variable.0 variable.1 ∷ added from to of rest) (added from to of rest)) ≡ before
      one again false e = again
      one again true e =
          ap (λ o. found_after key o (added from to of rest))
          (sym (stays_of_other key before (made variable.0 variable.1) (false_from_ne_true (is_of key (made variable.0 variable.1))
          (λ same. apart variable.0 e (same_name-is key (key_of (made variable.0 variable.1)) same ∙ key_of_made variable.0 variable.1))))) ∙ again

  -- one that changes is found as the set has it
  pub added_found : (name : List ℕ) (variables : List (List ℕ × List ℕ)) → is_rewritten from to name ≡ true →
      found_after (global_key name) None (added from to of variables) ≡ option_map (made name) (find name_cmp name variables)
  added_found name [] rewritten = refl
  added_found name (variable ∷ rest) rewritten = one (added_found name rest rewritten) (same_name name variable.0) refl (is_rewritten from to variable.0) refl
    where
      one : found_after (global_key name) None (added from to of rest) ≡ option_map (made name) (find name_cmp name rest) →
          (b : Bool) → same_name name variable.0 ≡ b → (c : Bool) → is_rewritten from to variable.0 ≡ c →
          found_after (global_key name) None (cond c (made variable.0 variable.1 ∷ added from to of rest)
          (added from to of rest)) ≡ option_map (made name) (cond b (Some variable.1) (find name_cmp name rest))
      one again true same false other = absurd (true≢false (sym rewritten ∙ ap (is_rewritten from to) (same_name-is name variable.0 same) ∙ other))
      one again true same true e =
          ap (λ o. found_after (global_key name) o (added from to of rest))
          (sym (takes_over (global_key name) None (made variable.0 variable.1) refl
          (same_name-of (global_key name) (key_of (made variable.0 variable.1))
          (ap global_key (same_name-is name variable.0 same) ∙ sym (key_of_made variable.0 variable.1))) refl))
          ∙ found_after-added (global_key name) (made variable.0 variable.1) (added from to of rest) refl
          ∙ ap (λ n. Some (made n variable.1)) (sym (same_name-is name variable.0 same))
      one again false other false e = again
      one again false other true e =
          ap (λ o. found_after (global_key name) o (added from to of rest))
          (sym (stays_of_other (global_key name) None (made variable.0 variable.1) (false_from_ne_true (is_of (global_key name) (made variable.0 variable.1))
          (λ same. false≢true (sym other ∙ same_name-of name variable.0
          (stored_name-same name variable.0 (same_end (stored_name name) (stored_name variable.0)
          (same_name-is (global_key name) (key_of (made variable.0 variable.1)) same ∙ key_of_made variable.0 variable.1))))))))
          ∙ again

-- ---- the laws

module _ (records : List RecordParts) (from to attributes : Variables) (whole : AllByRecursion IsRecord records) (from_is : IsSetOf records from) where
  abbrev new : List RecordParts
  new = new_records records from to attributes

  -- the attributes of a new record of the name
  abbrev of : List ℕ → List ℕ
  of name = new_attributes (get attributes name) (found (global_key name) records)

  four : (name : List ℕ) → length (of name) ≡ 4
  four name = (attributes-new records name (get attributes name) whole).0

  -- a variable that changes, where no record of it is left
  found_new : (name : List ℕ) (others : List RecordParts) → is_rewritten from to name ≡ true → found (global_key name) others ≡ None →
      found (global_key name) (others ++ new) ≡ option_map (made from to of four name) (get to name)
  found_new name others rewritten gone =
      found_after-append (global_key name) None others new ∙ ap (λ o. found_after (global_key name) o new) gone
      ∙ added_found from to of four name (entries to) rewritten ∙ ap (option_map (made from to of four name)) (sym (get-entries to name))

  written_new : (name : List ℕ) (others : List RecordParts) → is_rewritten from to name ≡ true → found (global_key name) others ≡ None →
      option_map (λ r. r.value) (found (global_key name) (others ++ new)) ≡ get to name
  written_new name others rewritten gone = ap (option_map (λ r. r.value)) (found_new name others rewritten gone) ∙ values (get to name)
    where
      values : (o : Option (List ℕ)) → option_map (λ r. r.value) (option_map (made from to of four name) o) ≡ o
      values None = refl
      values (Some value) = refl

  -- a variable that doesn't change, whose record is still there
  found_before : (name : List ℕ) (others : List RecordParts) → is_rewritten from to name ≡ false →
      found (global_key name) others ≡ found (global_key name) records →
      found (global_key name) (others ++ new) ≡ found (global_key name) records
  found_before name others same there =
      found_after-append (global_key name) None others new
      ∙ added_others from to of four (global_key name) (found (global_key name) others) (entries to)
      (λ other e key. true≢false (sym e ∙ ap (is_rewritten from to)
      (sym (stored_name-same name other (same_end (stored_name name) (stored_name other) key))) ∙ same)) ∙ there

  -- what is there of a variable that a set has, or of which no record is left out
  abbrev IsAskedFor : List ℕ → Type 0
  IsAskedFor name = (get to name ≢ None) ⊎ (if_left_out (found (global_key name) records) ≡ None)

  -- a record of a boot variable whose value no set can hold is left out
  unfit_left_out : (name : List ℕ) (r : RecordParts) → found (global_key name) records ≡ Some r → is_set_value r.value ≡ false → is_left_out r ≡ true
  unfit_left_out name r there unfit =
      let own = subst (λ (o : Option RecordParts). IfSome o (IsFoundAs (global_key name))) there (found_after-is (global_key name) None records tt) in
      let of_vendor = (global_name r name
      (vendor_len r (subst (λ (o : Option RecordParts). IfSome o IsRecord) there
      (found_after-all (global_key name) IsRecord None records whole tt))) (sym own.0)).0 in
      ap (λ b. b && not (is_set_value r.value && is_set_name r.name))
      (same_name-of global_vendor (vendor_in r.header) (sym of_vendor)) ∙ ap (λ b. not (b && is_set_name r.name)) unfit

  -- and what is left out of a boot variable has such a value
  left_out_unfit : (name : List ℕ) (r : RecordParts) → IsName name → found (global_key name) records ≡ Some r →
      is_left_out r ≡ true → is_set_value r.value ≡ false
  left_out_unfit name r is there left = go (is_set_value r.value) refl
    where
      own : IsFoundAs (global_key name) r
      own = subst (λ (o : Option RecordParts). IfSome o (IsFoundAs (global_key name))) there (found_after-is (global_key name) None records tt)

      parts : (vendor_in r.header ≡ global_vendor) × (r.name ≡ stored_name name)
      parts = global_name r name (vendor_len r (subst (λ (o : Option RecordParts). IfSome o IsRecord) there
          (found_after-all (global_key name) IsRecord None records whole tt))) (sym own.0)

      fits : is_set_name r.name ≡ true
      fits = ap is_set_name parts.1 ∙ set_name_fits name is

      go : (b : Bool) → is_set_value r.value ≡ b → b ≡ false
      go false e = refl
      go true e =
          absurd (false≢true (sym (ap (λ b. b && not (is_set_value r.value && is_set_name r.name))
          (same_name-of global_vendor (vendor_in r.header) (sym parts.0))
          ∙ ap (λ b. not (b && is_set_name r.name)) e ∙ ap not fits) ∙ left))

  written_before : (name : List ℕ) (others : List RecordParts) → IsName name → is_boot_name name ≡ true → is_rewritten from to name ≡ false → IsAskedFor name →
      found (global_key name) others ≡ found (global_key name) records → option_map (λ r. r.value) (found (global_key name) (others ++ new)) ≡ get to name
  written_before name others is boot same asked there =
      ap (option_map (λ r. r.value)) (found_before name others same there) ∙ value_there (found (global_key name) records) refl (sym (from_is name is)) ∙ equal
    where
      equal : get from name ≡ get to name
      equal = same_data-is (get from name) (get to name) (not-false _ (sym (ap (λ b. b && differs from to name) boot) ∙ same))

      value_there : (o : Option RecordParts) → found (global_key name) records ≡ o → set_data o ≡ get from name → option_map (λ r. r.value) o ≡ get from name
      value_there None found_o e = e
      value_there (Some r) found_o e = go (is_set_value r.value) refl e
        where
          go : (b : Bool) → is_set_value r.value ≡ b → cond b (Some r.value) None ≡ get from name → Some r.value ≡ get from name
          go true fit e' = e'
          go false unfit e' = elim asked [
            | inl some ↦ absurd (some (sym equal ∙ sym e'))
            | inr none ↦
                let left : if_left_out (found (global_key name) records) ≡ Some r =
                ap if_left_out found_o ∙ ap (λ b. cond b (Some r) None) (unfit_left_out name r found_o unfit) in
                let never : None ≡ Some r = sym none ∙ left in
                cc
          ]

  unless_same : (o : Option RecordParts) → ((r : RecordParts) → o ≡ Some r → is_outdated from to r ≡ false) → unless_outdated from to o ≡ o
  unless_same None apart = refl
  unless_same (Some r) apart = ap (λ b. cond b None (Some r)) (apart r refl)

  unless_gone : (o : Option RecordParts) → ((r : RecordParts) → o ≡ Some r → is_outdated from to r ≡ true) → unless_outdated from to o ≡ None
  unless_gone None all = refl
  unless_gone (Some r) all = ap (λ b. cond b None (Some r)) (all r refl)

  found_own : (name : List ℕ) (r : RecordParts) → IsName name → found (global_key name) records ≡ Some r → is_outdated from to r ≡ is_rewritten from to name
  found_own name r is e =
      let own = subst (λ (o : Option RecordParts). IfSome o (IsFoundAs (global_key name))) e (found_after-is (global_key name) None records tt) in
      outdated_is from to r name (subst (λ (o : Option RecordParts). IfSome o IsRecord) e
      (found_after-all (global_key name) IsRecord None records whole tt)) is own.1 own.0

  -- Records that keep what doesn't change, and no record of what changes: as those in their places, and those that were moved.
  abbrev Keeps : List ℕ → List RecordParts → Type 0
  Keeps name others =
      (is_rewritten from to name ≡ true → found (global_key name) others ≡ None)
      × (is_rewritten from to name ≡ false → found (global_key name) others ≡ found (global_key name) records)

  pub asked_for : (name : List ℕ) (others : List RecordParts) → IsName name → is_boot_name name ≡ true → IsAskedFor name → Keeps name others →
      option_map (λ r. r.value) (found (global_key name) (others ++ new)) ≡ get to name
  asked_for name others is boot asked keeps = go (is_rewritten from to name) refl
    where
      go : (b : Bool) → is_rewritten from to name ≡ b → option_map (λ r. r.value) (found (global_key name) (others ++ new)) ≡ get to name
      go true e = written_new name others e (keeps.0 e)
      go false e = written_before name others is boot e asked (keeps.1 e)

  -- what is left out, and isn't asked for, stays
  pub left_as_it_is : (name : List ℕ) (others : List RecordParts) (r : RecordParts) → IsName name → Keeps name others →
      found (global_key name) records ≡ Some r → is_left_out r ≡ true →
      get to name ≡ None → found (global_key name) (others ++ new) ≡ Some r
  left_as_it_is name others r is keeps there left none =
      let lacks : get from name ≡ None = from_is name is ∙ ap set_data there ∙ ap (λ b. cond b (Some r.value) None) (left_out_unfit name r is there left) in
      let same : is_rewritten from to name ≡ false =
      ap (λ (o : Option (List ℕ)). is_boot_name name && not (same_data o (get to name))) lacks
      ∙ ap (λ (o : Option (List ℕ)). is_boot_name name && not (same_data None o)) none ∙ never (is_boot_name name) in
      found_before name others same (keeps.1 same) ∙ there
    where
      never : (b : Bool) → (b && false) ≡ false
      never true = refl
      never false = refl

  -- a new record has the attributes that are given, or else those of the record that was there
  pub as_given : (name value : List ℕ) (others : List RecordParts) → is_boot_name name ≡ true → Keeps name others →
      get to name ≡ Some value → get from name ≢ Some value →
      found (global_key name) (others ++ new) ≡ Some (new_record (of name) name value)
  as_given name value others boot keeps put other = found_new name others rewritten (keeps.0 rewritten) ∙ ap (option_map (made from to of four name)) put
    where
      unlike : (b : Bool) → same_data (get from name) (get to name) ≡ b → not b ≡ true
      unlike false e = refl
      unlike true e = absurd (other (same_data-is (get from name) (get to name) e ∙ put))

      rewritten : is_rewritten from to name ≡ true
      rewritten = ap (λ b. b && differs from to name) boot ∙ unlike (same_data (get from name) (get to name)) refl

  same_rewritten : (name other : List ℕ) → global_key name ≡ global_key other → name ≡ other
  same_rewritten name other key = stored_name-same name other (same_end (stored_name name) (stored_name other) key)

  pub in_place : (name : List ℕ) → IsName name → Keeps name (without_outdated from to records)
  in_place name is = (
    λ e. goes from to name records whole is e,
    λ e. stays from to (global_key name) None records (λ r outdated same.
        let own = of_boot from to r outdated in
        true≢false (sym own.2 ∙ ap (is_rewritten from to) (sym (same_rewritten name own.1 (same_name-is (global_key name) (key_of r) same ∙ own.3))) ∙ e)),
  )

  pub after_moving : (name : List ℕ) (kept : List RecordParts) → AreKept records from to kept → IsName name → Keeps name kept
  after_moving name kept are is = (
    λ e. are.each (global_key name) ∙ unless_gone (found (global_key name) records) (λ r found_r. found_own name r is found_r ∙ e),
    λ e. are.each (global_key name) ∙ unless_same (found (global_key name) records) (λ r found_r. found_own name r is found_r ∙ e),
  )

  -- and every other variable
  pub others_in_place : (key : List ℕ) → ((name : List ℕ) → is_boot_name name ≡ true → key ≡ global_key name → ⊥) →
      found key (without_outdated from to records ++ new) ≡ found key records
  others_in_place key apart =
      found_after-append key None (without_outdated from to records) new
      ∙ added_others from to of four key (found key (without_outdated from to records)) (entries to)
      (λ name e is. apart name (and_parts (is_boot_name name) _ e).0 is)
      ∙ stays from to key None records (λ r outdated same. let own = of_boot from to r outdated in
      apart own.1 (and_parts (is_boot_name own.1) _ own.2).0 (same_name-is key (key_of r) same ∙ own.3))

  pub others_after_moving : (key : List ℕ) (kept : List RecordParts) → AreKept records from to kept →
      ((name : List ℕ) → is_boot_name name ≡ true → key ≡ global_key name → ⊥) →
      found key (kept ++ new) ≡ found key records
  others_after_moving key kept are apart =
      found_after-append key None kept new
      ∙ added_others from to of four key (found key kept) (entries to) (λ name e is. apart name (and_parts (is_boot_name name) _ e).0 is)
      ∙ are.each key ∙ unless_same (found key records) (λ r e. false_from_ne_true (is_outdated from to r) (λ outdated.
      let own = of_boot from to r outdated in
      let found_as = subst (λ (o : Option RecordParts). IfSome o (IsFoundAs key)) e (found_after-is key None records tt) in
      apart own.1 (and_parts (is_boot_name own.1) _ own.2).0 (sym found_as.0 ∙ own.3)))

-- ---- a file that was written

module _ (file bytes : List ℕ) (to attributes : Variables) (written : IsWritten file to attributes bytes) where
  abbrev before : List RecordParts
  before = written.before.records

  abbrev after : List RecordParts
  after = written.after.records

  whole : AllByRecursion IsRecord before
  whole = written.was.area.whole

  -- the records after writing are others, of which none is of a variable that changes, and the new ones
  module _ (name : List ℕ) (is : IsName name) where
    abbrev KeepsName : List RecordParts → Type 0
    KeepsName others = Keeps before written.from to attributes whole written.from_is name others

    split : (others : List RecordParts) × KeepsName others × (after ≡ others ++ new_records before written.from to attributes)
    split = elim written.records [
      | inl appended ↦
          (without_outdated written.from to before, in_place before written.from to attributes whole written.from_is name is, appended.records)
      | inr moved ↦ (moved.kept, after_moving before written.from to attributes whole written.from_is name moved.kept moved.are is, moved.records)
    ]

    pub boot_as_asked : is_boot_name name ≡ true → (get to name ≢ None) ⊎ (if_left_out (found (global_key name) before) ≡ None) →
        option_map (λ r. r.value) (found (global_key name) after) ≡ get to name
    boot_as_asked boot asked =
        ap (λ (rs : List RecordParts). option_map (λ r. r.value) (found (global_key name) rs)) split.2
        ∙ asked_for before written.from to attributes whole written.from_is name split.0 is boot asked split.1

    pub left_out_stays : (r : RecordParts) → found (global_key name) before ≡ Some r → is_left_out r ≡ true →
        get to name ≡ None → found (global_key name) after ≡ Some r
    left_out_stays r there left none = ap (found (global_key name)) split.2
        ∙ left_as_it_is before written.from to attributes whole written.from_is name split.0 r is split.1 there left none

    pub attributes_as_given : (value : List ℕ) → is_boot_name name ≡ true → get to name ≡ Some value → get written.from name ≢ Some value →
        found (global_key name) after ≡ Some (new_record (new_attributes (get attributes name) (found (global_key name) before)) name value)
    attributes_as_given value boot put other =
        ap (found (global_key name)) split.2 ∙ as_given before written.from to attributes whole written.from_is name value split.0 boot split.1 put other

  pub others_as_before : (key : List ℕ) → ((name : List ℕ) → is_boot_name name ≡ true → key ≡ global_key name → ⊥) → found key after ≡ found key before
  others_as_before key apart = elim written.records [
    | inl appended ↦ ap (found key) appended.records ∙ others_in_place before written.from to attributes whole written.from_is key apart
    | inr moved ↦ ap (found key) moved.records ∙ others_after_moving before written.from to attributes whole written.from_is key moved.kept moved.are apart
  ]
