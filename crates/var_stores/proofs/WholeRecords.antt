-- Deleted and new records have the lengths that their headers state.
use Rattle.std.proofs.Common.{◌≡◌, ◌≢◌, ◌⊎◌, ℕ, ◌+◌, ◌-◌, ◌<◌, ◌==◌, ◌||◌, ◌&&◌, not, Bool, true, false, cond, List, [], ◌∷◌, length, take}
use Rattle.std.proofs.Common.{drop, Option, Some, None, IfSome, inl, inr, refl, sym, ap, ◌∙◌, arith}
use Rattle.std.specs.Prelude.{nat_lt}
use Rattle.std.specs.Option.{unwrap_or}
use Rattle.std.specs.FinMap.{get}
use Rattle.std.proofs.lemmas.Bool.{or_cases, or_left, or_right, and_parts, false_from_ne_true, true≢false, ltb-false, eqb-true, eq-eqb}
use Rattle.std.proofs.lemmas.List.{length-replicate, length-take-le, length-drop}
use Rattle.std.proofs.lemmas.Nat.{from_le_bytes-to_le_bytes_4}
use Rattle.std.specs.Int.{w32, from_le_bytes}
use Rattle.std.specs.List.{AllByRecursion}
use Rattle.uefi_vars.specs.Name.{IsName}
use Rattle.uefi_vars.specs.Vars.{Variables, data_max, IsData, IsVariable}
use Rattle.var_stores.specs.Record.{RecordParts, number_in, attributes_in, attribute_bytes, blank, is_unfinished, padding_len, name_len, value_len, IsRecord}
use Rattle.var_stores.specs.Present.{stored_name, global_key, key_of, is_alive, found, is_set_value}
use Rattle.var_stores.specs.Rewriting.{is_rewritten, is_outdated, deleted, without_outdated, attributes_there, new_attributes, header_of, new_record, added}
use Rattle.var_stores.proofs.Found.{IsFoundAs, found_after-is, found_after-all}
use Rattle.var_stores.proofs.GlobalKeys.{vendor_len, global_name}
use Rattle.var_stores.proofs.StoredNames.{stored_name-len}

-- ---- a record that is deleted

pub alive_state : (r : RecordParts) → is_alive r ≡ true → (r.state ≡ 63) ⊎ (r.state ≡ 62)
alive_state r alive = elim (or_cases (r.state == 63) (r.state == 62) alive) [ inl e ↦ inl (eqb-true r.state 63 e) | inr e ↦ inr (eqb-true r.state 62 e) ]

-- its state stays one of a header that was written
same_unfinished : (r : RecordParts) → is_alive r ≡ true → is_unfinished (r.state - 2) r.header ≡ is_unfinished r.state r.header
same_unfinished r alive = elim (alive_state r alive) [
  | inl e ↦ ap (λ n. is_unfinished (n - 2) r.header) e ∙ sym (ap (λ n. is_unfinished n r.header) e)
  | inr e ↦ ap (λ n. is_unfinished (n - 2) r.header) e ∙ sym (ap (λ n. is_unfinished n r.header) e)
]

pub deleted-whole : (r : RecordParts) → is_alive r ≡ true → IsRecord r → IsRecord (deleted r)
deleted-whole r alive is = record {
  header = is.header;
  name = is.name ∙ sym (ap (λ b. cond b 0 (number_in r.header 33)) (same_unfinished r alive));
  value = is.value ∙ sym (ap (λ b. cond b 0 (number_in r.header 37)) (same_unfinished r alive));
  padding = is.padding;
}

pub without_outdated-whole : (from to : Variables) (records : List RecordParts) → AllByRecursion IsRecord records →
    AllByRecursion IsRecord (without_outdated from to records)
without_outdated-whole from to [] whole = tt
without_outdated-whole from to (r ∷ records) whole = (one (is_outdated from to r) refl, without_outdated-whole from to records whole.1)
  where
    one : (b : Bool) → is_outdated from to r ≡ b → IsRecord (cond b (deleted r) r)
    one true e = deleted-whole r ((and_parts (is_alive r) _ e).0) whole.0
    one false e = whole.0

-- ---- a new record

-- the number of four bytes that isn't what blank memory reads as
not_blank : (n : ℕ) → (n ≡ blank → ⊥) → (n == blank) ≡ false
not_blank n other = false_from_ne_true (n == blank) (λ e. other (eqb-true n blank e))

record FinishedHeader (header : List ℕ) (name_size value_size : ℕ) : Type 0 where
  len : length header ≡ 57
  name : name_len 63 header ≡ name_size
  value : value_len 63 header ≡ value_size

module _ (a b c d name_size value_size : ℕ) (name_small : name_size < blank) (value_small : value_size < blank)
    (written : from_le_bytes w32 (a ∷ b ∷ c ∷ d ∷ []) ≢ blank) where
  abbrev header : List ℕ
  header = header_of (a ∷ b ∷ c ∷ d ∷ []) name_size value_size

  name_size_is : number_in header 33 ≡ name_size
  name_size_is = from_le_bytes-to_le_bytes_4 name_size (omega (arith, name_small))

  value_size_is : number_in header 37 ≡ value_size
  value_size_is = from_le_bytes-to_le_bytes_4 value_size (omega (arith, value_small))

  finished : is_unfinished 63 header ≡ false
  finished =
      ap (λ b'. b' || ((number_in header 33 == blank) || (number_in header 37 == blank))) (not_blank (attributes_in header) written)
      ∙ ap (λ b'. b' || (number_in header 37 == blank)) (not_blank (number_in header 33) (λ e. let is = name_size_is in omega (arith, is, e, name_small)))
      ∙ not_blank (number_in header 37) (λ e. let is = value_size_is in omega (arith, is, e, value_small))

  finished_header : FinishedHeader header name_size value_size
  finished_header = record {
    len = refl;
    name = ap (λ b'. cond b' 0 (number_in header 33)) finished ∙ name_size_is;
    value = ap (λ b'. cond b' 0 (number_in header 37)) finished ∙ value_size_is;
  }

of_four : (attributes : List ℕ) (name_size value_size : ℕ) → length attributes ≡ 4 → name_size < blank → value_size < blank →
    from_le_bytes w32 attributes ≢ blank →
    FinishedHeader (header_of attributes name_size value_size) name_size value_size
of_four [] n v four small value_small written = absurd (omega (arith, four))
of_four (a ∷ []) n v four small value_small written = absurd (omega (arith, four))
of_four (a ∷ b ∷ []) n v four small value_small written = absurd (omega (arith, four))
of_four (a ∷ b ∷ c ∷ []) n v four small value_small written = absurd (omega (arith, four))
of_four (a ∷ b ∷ c ∷ d ∷ []) n v four small value_small written = finished_header a b c d n v small value_small written
of_four (a ∷ b ∷ c ∷ d ∷ e ∷ rest) n v four small value_small written = absurd (omega (arith, four))

pub new-whole : (attributes name value : List ℕ) → length attributes ≡ 4 → from_le_bytes w32 attributes ≢ blank → IsName name →
    IsData value → IsRecord (new_record attributes name value)
new-whole attributes name value four written is held =
    let size = stored_name-len name in
    let short = is.len in
    let bytes = held.len in
    let header = of_four attributes (length (stored_name name)) (length value) four (omega (arith, size, short)) (omega (arith, bytes)) written in
    record {
      header = header.len;
      name = sym header.name;
      value = sym header.value;
      padding = length-replicate (padding_len (length (stored_name name) + length value)) 0xFF;
    }

-- the attributes of a record that is there
abbrev HasAttributes : List ℕ → Type 0
HasAttributes attributes = (length attributes ≡ 4) × (from_le_bytes w32 attributes ≢ blank)

four_bytes : (r : RecordParts) → IsRecord r → length (attribute_bytes r.header) ≡ 4
four_bytes r is = length-take-le 4 (drop 1 r.header) (let more = length-drop 1 r.header in let len = is.header in omega (arith, more, len))

-- a set can hold them
pub attributes_fit : (r : RecordParts) → IsRecord r → is_set_value (attribute_bytes r.header) ≡ true
attributes_fit r is = ap (λ n. not (n == 0) && not (nat_lt data_max n)) (four_bytes r is)

of_record : (r : RecordParts) (name : List ℕ) → IsRecord r → key_of r ≡ global_key name → HasAttributes (attributes_there (Some r))
of_record r name is key = (four_bytes r is, λ e. unfinished (or_right' e))
  where
    stored : r.name ≡ stored_name name
    stored = (global_name r name (vendor_len r is) (sym key)).1

    unfinished : is_unfinished r.state r.header ≡ true → ⊥
    unfinished e =
        let none = is.name ∙ ap (λ b. cond b 0 (number_in r.header 33)) e in
        let some = ap length stored in
        let size = stored_name-len name in
        omega (arith, none, some, size)

    or_right' : attributes_in r.header ≡ blank → is_unfinished r.state r.header ≡ true
    or_right' e = or_right (r.state == 255) _ (or_left (attributes_in r.header == blank) _ (eq-eqb (attributes_in r.header) blank e))

pub attributes-there : (records : List RecordParts) (name : List ℕ) → AllByRecursion IsRecord records →
    HasAttributes (attributes_there (found (global_key name) records))
attributes-there records name whole = go (found (global_key name) records) (found_after-is (global_key name) None records tt)
    (found_after-all (global_key name) IsRecord None records whole tt)
  where
    go : (o : Option RecordParts) → IfSome o (IsFoundAs (global_key name)) → IfSome o IsRecord → HasAttributes (attributes_there o)
    go None own is = (refl, λ e. let seven : 7 ≡ blank = e in omega (arith, seven))
    go (Some r) own is = of_record r name is own.0

-- those that are given, or else of a record that is there
pub attributes-new : (records : List RecordParts) (name : List ℕ) (given : Option (List ℕ)) → AllByRecursion IsRecord records →
    HasAttributes (new_attributes given (found (global_key name) records))
attributes-new records name None whole = attributes-there records name whole
attributes-new records name (Some given) whole = few (nat_lt (length given) 4) refl
  where
    erased : (b : Bool) → (from_le_bytes w32 (take 4 given) == blank) ≡ b → length (take 4 given) ≡ 4 →
        HasAttributes (unwrap_or (cond b None (Some (take 4 given))) (attributes_there (found (global_key name) records)))
    erased true e four = attributes-there records name whole
    erased false e four = (four, λ same. true≢false (sym (eq-eqb (from_le_bytes w32 (take 4 given)) blank same) ∙ e))

    few : (b : Bool) → nat_lt (length given) 4 ≡ b →
        HasAttributes (unwrap_or (cond b None (cond (from_le_bytes w32 (take 4 given) == blank) None (Some (take 4 given))))
        (attributes_there (found (global_key name) records)))
    few true e = attributes-there records name whole
    few false e = erased (from_le_bytes w32 (take 4 given) == blank) refl (length-take-le 4 given (ltb-false (length given) 4 e))

-- the attributes of a new record of the name
abbrev attributes_for : List RecordParts → Variables → List ℕ → List ℕ
attributes_for records attributes name = new_attributes (get attributes name) (found (global_key name) records)

pub added-whole : (records : List RecordParts) (from to attributes : Variables) (variables : List (List ℕ × List ℕ)) →
    AllByRecursion IsRecord records → AllByRecursion IsVariable variables →
    AllByRecursion IsRecord (added from to (attributes_for records attributes) variables)
added-whole records from to attributes [] whole valid = tt
added-whole records from to attributes (variable ∷ rest) whole valid =
    one (is_rewritten from to variable.0) (added-whole records from to attributes rest whole valid.1)
  where
    one : (b : Bool) → AllByRecursion IsRecord (added from to (attributes_for records attributes) rest) →
        AllByRecursion IsRecord (cond b (new_record (attributes_for records attributes variable.0) variable.0 variable.1 ∷ added
        from to (attributes_for records attributes) rest)
        (added from to (attributes_for records attributes) rest))
    one true others =
        let has = attributes-new records variable.0 (get attributes variable.0) whole in
        (new-whole (attributes_for records attributes variable.0) variable.0 variable.1 has.0 has.1 valid.0.0 valid.0.1, others)
    one false others = others
