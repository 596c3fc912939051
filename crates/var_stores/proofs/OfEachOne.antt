-- Records of which each is of another variable.
use Rattle.std.proofs.Common.{◌≡◌, ℕ, Bool, true, false, cond, ◌&&◌, List, [], ◌∷◌, map, Option, Some, None, refl, sym, ap, ◌∙◌}
use Rattle.std.specs.List.{AllByRecursion, IsDistinct, filter}
use Rattle.std.proofs.lemmas.Map.Keys.{IsDistinct-head, IsDistinct-tail}
use Rattle.var_stores.specs.Record.{RecordParts}
use Rattle.uefi_vars.specs.BootChange.{same_name}
use Rattle.var_stores.specs.Present.{key_of, is_of, is_alive, found, found_after, is_set_value, set_part}
use Rattle.uefi_vars.proofs.NameTests.{same_name-is}
use Rattle.var_stores.proofs.PresentRecords.{stays_of_other, takes_over}

-- the first record of the variable
abbrev pub first_of : List ℕ → List RecordParts → Option RecordParts
first_of key [] = None
first_of key (r ∷ records) = cond (is_of key r) (Some r) (first_of key records)

abbrev pub AreOfEachOne : List RecordParts → Type 0
AreOfEachOne records = IsDistinct same_name (map key_of records)

abbrev pub AreOfOthers : List ℕ → List RecordParts → Type 0
AreOfOthers key records = AllByRecursion (λ r. is_of key r ≡ false) records

-- a variable's record comes first, and no other follows, or one of another variable comes first
pub by_first : (key : List ℕ) (r : RecordParts) (records : List RecordParts) (P : Type 0) → AreOfEachOne (r ∷ records) →
    (is_of key r ≡ true → AreOfOthers key records → P) → (is_of key r ≡ false → P) → P
by_first key r records P each here there = go (is_of key r) refl
  where
    others : (rs : List RecordParts) → key ≡ key_of r → AllByRecursion (λ k. same_name (key_of r) k ≡ false) (map key_of rs) → AreOfOthers key rs
    others [] is apart = tt
    others (s ∷ rs) is apart = (ap (λ k. same_name k (key_of s)) is ∙ apart.0, others rs is apart.1)

    go : (b : Bool) → is_of key r ≡ b → P
    go true e = here e (others records (same_name-is key (key_of r) e) (IsDistinct-head same_name (key_of r) (map key_of records) each))
    go false e = there e

pub tail_of : (r : RecordParts) (records : List RecordParts) → AreOfEachOne (r ∷ records) → AreOfEachOne records
tail_of r records each = IsDistinct-tail same_name (key_of r) (map key_of records) each

pub first_is : (key : List ℕ) (r : RecordParts) (records : List RecordParts) → is_of key r ≡ true → first_of key (r ∷ records) ≡ Some r
first_is key r records same = ap (λ b. cond b (Some r) (first_of key records)) same

pub first_later : (key : List ℕ) (r : RecordParts) (records : List RecordParts) → is_of key r ≡ false → first_of key (r ∷ records) ≡ first_of key records
first_later key r records other = ap (λ b. cond b (Some r) (first_of key records)) other

pub first_none : (key : List ℕ) (records : List RecordParts) → AreOfOthers key records → first_of key records ≡ None
first_none key [] others = refl
first_none key (r ∷ records) others = first_later key r records others.0 ∙ first_none key records others.1

-- ---- what is found among them

pub found_after-others : (key : List ℕ) (before : Option RecordParts) (records : List RecordParts) → AreOfOthers key records →
    found_after key before records ≡ before
found_after-others key before [] others = refl
found_after-others key before (r ∷ records) others =
    ap (λ found. found_after key found records) (sym (stays_of_other key before r others.0)) ∙ found_after-others key before records others.1

pub found-first : (key : List ℕ) (records : List RecordParts) → AreOfEachOne records →
    AllByRecursion (λ r. is_alive r ≡ true) records → found key records ≡ first_of key records
found-first key [] each alive = refl
found-first key (r ∷ records) each alive = by_first key r records (found key (r ∷ records) ≡ first_of key (r ∷ records)) each
    (λ same others.
    ap (λ before. found_after key before records) (sym (takes_over key None r alive.0 same refl))
    ∙ found_after-others key (Some r) records others ∙ sym (first_is key r records same))
    (λ other.
    ap (λ before. found_after key before records) (sym (stays_of_other key None r other))
    ∙ found-first key records (tail_of r records each) alive.1 ∙ sym (first_later key r records other))

-- ---- those of them that pass a test

abbrev pub if_passes : (RecordParts → Bool) → Option RecordParts → Option RecordParts
if_passes p None = None
if_passes p (Some r) = cond (p r) (Some r) None

others-filter : (p : RecordParts → Bool) (key : List ℕ) (records : List RecordParts) → AreOfOthers key records → AreOfOthers key (filter p records)
others-filter p key [] others = tt
others-filter p key (r ∷ records) others = elim (p r) as (λ b. AreOfOthers key (cond b (r ∷ filter p records) (filter p records))) [
  | true ↦ (others.0, others-filter p key records others.1)
  | false ↦ others-filter p key records others.1
]

pub first_of-filter : (p : RecordParts → Bool) (key : List ℕ) (records : List RecordParts) → AreOfEachOne records →
    first_of key (filter p records) ≡ if_passes p (first_of key records)
first_of-filter p key [] each = refl
first_of-filter p key (r ∷ records) each = by_first key r records (first_of key (filter p (r ∷ records)) ≡ if_passes p (first_of key (r ∷ records))) each
    (λ same others. passes same others (p r) ∙ ap (if_passes p) (sym (first_is key r records same)))
    (λ other. skips other (p r) ∙ first_of-filter p key records (tail_of r records each) ∙ ap (if_passes p) (sym (first_later key r records other)))
  where
    passes : is_of key r ≡ true → AreOfOthers key records → (b : Bool) → first_of key (cond b (r ∷ filter p records) (filter p records)) ≡ cond b (Some r) None
    passes same others true = first_is key r (filter p records) same
    passes same others false = first_none key (filter p records) (others-filter p key records others)

    skips : is_of key r ≡ false → (b : Bool) → first_of key (cond b (r ∷ filter p records) (filter p records)) ≡ first_of key (filter p records)
    skips other true = first_later key r (filter p records) other
    skips other false = refl

-- ---- what a set has of them

-- what a set has under a key once it was given a part of each record
abbrev pub part_after : (RecordParts → List ℕ) → List ℕ → Option (List ℕ) → List RecordParts → Option (List ℕ)
part_after part key before [] = before
part_after part key before (r ∷ records) = part_after part key (cond (is_of key r && is_set_value r.value) (Some (part r)) before) records

part_after-others : (part : RecordParts → List ℕ) (key : List ℕ) (before : Option (List ℕ)) (records : List RecordParts) →
    AreOfOthers key records → part_after part key before records ≡ before
part_after-others part key before [] others = refl
part_after-others part key before (r ∷ records) others =
    ap (λ b. part_after part key (cond (b && is_set_value r.value) (Some (part r)) before) records) others.0
    ∙ part_after-others part key before records others.1

pub part_after-first : (part : RecordParts → List ℕ) (key : List ℕ) (records : List RecordParts) → AreOfEachOne records →
    part_after part key None records ≡ set_part part (first_of key records)
part_after-first part key [] each = refl
part_after-first part key (r ∷ records) each = by_first key r records (part_after part key None (r ∷ records) ≡ set_part part (first_of key (r ∷ records))) each
    (λ same others.
    ap (λ b. part_after part key (cond (b && is_set_value r.value) (Some (part r)) None) records) same
    ∙ part_after-others part key (set_part part (Some r)) records others
    ∙ ap (set_part part) (sym (first_is key r records same)))
    (λ other.
    ap (λ b. part_after part key (cond (b && is_set_value r.value) (Some (part r)) None) records) other
    ∙ part_after-first part key records (tail_of r records each)
    ∙ ap (set_part part) (sym (first_later key r records other)))
