-- The records of the variables that are there and don't change.
use Rattle.std.proofs.Common.{◌≡◌, ℕ, Bool, true, false, cond, not, List, [], ◌∷◌, map, Option, Some, None, refl, ap, ◌∙◌}
use Rattle.std.specs.List.{AllByRecursion, filter}
use Rattle.std.specs.List.Sorted.{IsStrictlySortedBy}
use Rattle.std.specs.declared.cmp.Ordering.TheVariants.{Less}
use Rattle.std.specs.Global.{Vec}
use Rattle.std.specs.BTreeMap.{BTreeMap, values, IsOrdered}
use Rattle.std.proofs.lemmas.Map.Keys.{IsDistinct-from_sorted}
use Rattle.uefi_vars.specs.Vars.{Variables, name_cmp}
use Rattle.var_stores.specs.declared.record.Record.{Record}
use Rattle.var_stores.specs.Record.{RecordParts, record_parts, IsRecord}
use Rattle.var_stores.specs.Present.{key_of, is_alive, found}
use Rattle.var_stores.specs.PresentMap.{record_under, AreKeyed, AreWhole}
use Rattle.var_stores.specs.Rewriting.{is_outdated, unchanged, unless_outdated, AreKept}
use Rattle.var_stores.proofs.OfEachOne.{found-first, first_of-filter, if_passes}
use Rattle.var_stores.proofs.PresentValues.{records_sorted, records_of_each_one, first_under, records_alive, records_whole}

-- what holds of all holds of those that pass
pub filter-all : (P : RecordParts → Type 0) (p : RecordParts → Bool) (records : List RecordParts) → AllByRecursion P records →
    AllByRecursion P (filter p records)
filter-all P p [] all = tt
filter-all P p (r ∷ records) all = elim (p r) as (λ b. AllByRecursion P (cond b (r ∷ filter p records) (filter p records))) [
  | true ↦ (all.0, filter-all P p records all.1)
  | false ↦ filter-all P p records all.1
]

below-filter : (key : List ℕ) (p : RecordParts → Bool) (records : List RecordParts) → AllByRecursion (λ k. name_cmp key k ≡ Less) (map key_of records) →
    AllByRecursion (λ k. name_cmp key k ≡ Less) (map key_of (filter p records))
below-filter key p [] below = tt
below-filter key p (r ∷ records) below = elim (p r) as (λ b.
    AllByRecursion (λ k. name_cmp key k ≡ Less) (map key_of (cond b (r ∷ filter p records) (filter p records)))) [
      | true ↦ (below.0, below-filter key p records below.1)
      | false ↦ below-filter key p records below.1
    ]

pub sorted-filter : (p : RecordParts → Bool) (records : List RecordParts) → IsStrictlySortedBy name_cmp (map key_of records) →
    IsStrictlySortedBy name_cmp (map key_of (filter p records))
unfolding IsStrictlySortedBy
sorted-filter p [] sorted = tt
sorted-filter p (r ∷ records) sorted = elim (p r) as (λ b. IsStrictlySortedBy name_cmp (map key_of (cond b (r ∷ filter p records) (filter p records)))) [
  | true ↦ (below-filter (key_of r) p records sorted.0, sorted-filter p records sorted.1)
  | false ↦ sorted-filter p records sorted.1
]

passes-or-not : (from to : Variables) (o : Option RecordParts) → if_passes (λ r. not (is_outdated from to r)) o ≡ unless_outdated from to o
passes-or-not from to None = refl
passes-or-not from to (Some r) = elim (is_outdated from to r) as (λ b. cond (not b) (Some r) None ≡ cond b None (Some r)) [ true ↦ refl | false ↦ refl ]

module _ (present : BTreeMap (Vec ℕ) Record) (ordered : IsOrdered (λ x y. name_cmp x.items y.items) present) (keyed : AreKeyed present) where
  abbrev there : List RecordParts
  there = map record_parts (values present)

  kept_sorted : (from to : Variables) → IsStrictlySortedBy name_cmp (map key_of (unchanged from to there))
  kept_sorted from to = sorted-filter (λ r. not (is_outdated from to r)) there (records_sorted present ordered keyed)

  kept_alive : (from to : Variables) → AllByRecursion (λ r. is_alive r ≡ true) (unchanged from to there)
  kept_alive from to = filter-all (λ r. is_alive r ≡ true) (λ r. not (is_outdated from to r)) there (records_alive present ordered keyed)

  pub are_kept : (records : List RecordParts) (from to : Variables) →
      ((key : List ℕ) → record_under present key ≡ found key records) → AreKept records from to (unchanged from to there)
  are_kept records from to all = record {
    order = kept_sorted from to;
    alive = kept_alive from to;
    each = λ key.
        found-first key (unchanged from to there) (IsDistinct-from_sorted name_cmp (map key_of (unchanged from to there))
        (kept_sorted from to)) (kept_alive from to)
        ∙ first_of-filter (λ r. not (is_outdated from to r)) key there (records_of_each_one present ordered keyed)
        ∙ ap (if_passes (λ r. not (is_outdated from to r))) (first_under present ordered keyed key ∙ all key) ∙ passes-or-not from to (found key records);
  }

  pub kept_whole : (from to : Variables) → AreWhole present → AllByRecursion IsRecord (unchanged from to there)
  kept_whole from to whole = filter-all IsRecord (λ r. not (is_outdated from to r)) there (records_whole present ordered keyed whole)
