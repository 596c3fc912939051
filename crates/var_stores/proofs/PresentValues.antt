-- The records that are there, in the order of their keys.
use Rattle.std.proofs.Common.{◌≡◌, ℕ, Bool, true, false, cond, List, [], ◌∷◌, map, Option, Some, None, IfSome, refl, sym, ap, subst, ◌∙◌}
use Rattle.std.specs.Option.{option_map}
use Rattle.std.specs.Global.{Vec}
use Rattle.std.specs.List.{AllByRecursion, IsDistinct}
use Rattle.std.specs.List.Sorted.{IsStrictlySortedBy}
use Rattle.std.specs.declared.cmp.Ordering.TheVariants.{Less}
use Rattle.std.specs.Map.{lookup, keys_of, values_of}
use Rattle.std.specs.BTreeMap.{BTreeMap, values, IsOrdered}
use Rattle.std.proofs.lemmas.Map.Entries.{lookup_head, lookup_tail}
use Rattle.std.proofs.lemmas.Map.Keys.{IsDistinct-from_sorted}
use Rattle.uefi_vars.specs.Vars.{name_cmp}
use Rattle.var_stores.specs.declared.record.Record.{Record}
use Rattle.var_stores.specs.Record.{RecordParts, record_parts, IsRecord}
use Rattle.uefi_vars.specs.BootChange.{same_name}
use Rattle.var_stores.specs.Present.{key_of, is_alive}
use Rattle.var_stores.specs.PresentMap.{record_under, AreKeyed, AreWhole}
use Rattle.uefi_vars.proofs.NameTests.{same_name-is, same_name-refl}
use Rattle.var_stores.proofs.OfEachOne.{first_of, AreOfEachOne}

abbrev Entries : Type 0
Entries = List (Vec ℕ × Record)

abbrev has_key : List ℕ → Vec ℕ → Bool
has_key key k = same_name key k.items

abbrev under : List ℕ → Entries → Option RecordParts
under key es = option_map record_parts (lookup (has_key key) es)

abbrev key_bytes : Entries → List (List ℕ)
key_bytes es = map (λ k. k.items) (keys_of es)

abbrev records_of : Entries → List RecordParts
records_of es = map record_parts (values_of es)

-- a key is once among them
none_later : (key first : List ℕ) (es : Entries) → key ≡ first → AllByRecursion (λ k. same_name first k ≡ false) (key_bytes es) → under key es ≡ None
none_later key first [] is apart = refl
none_later key first (e ∷ es) is apart =
    ap (option_map record_parts) (lookup_tail (has_key key) e es (ap (λ k. same_name k e.0.items) is ∙ apart.0)) ∙ none_later key first es is apart.1

-- what holds of each record under its key
module _ (P : List ℕ → RecordParts → Type 0) where
  abbrev HoldsUnder : Entries → Type 0
  HoldsUnder es = (key : List ℕ) → IfSome (under key es) (P key)

  later : (e : Vec ℕ × Record) (es : Entries) → IsDistinct same_name (key_bytes (e ∷ es)) → HoldsUnder (e ∷ es) → HoldsUnder es
  unfolding IsDistinct
  later e es distinct holds key = go (has_key key e.0) refl
    where
      go : (b : Bool) → has_key key e.0 ≡ b → IfSome (under key es) (P key)
      go true same = subst (λ (o : Option RecordParts). IfSome o (P key)) (sym (none_later key e.0.items es (same_name-is key e.0.items same) distinct.0)) tt
      go false other = subst (λ (o : Option RecordParts). IfSome o (P key)) (ap (option_map record_parts) (lookup_tail (has_key key) e es other)) (holds key)

  of_each : (es : Entries) → IsDistinct same_name (key_bytes es) → HoldsUnder es → AllByRecursion (λ e. P e.0.items (record_parts e.1)) es
  unfolding IsDistinct
  of_each [] distinct holds = tt
  of_each (e ∷ es) distinct holds = (
    subst (λ (o : Option RecordParts). IfSome o (P e.0.items))
        (ap (option_map record_parts) (lookup_head (has_key e.0.items) e es (same_name-refl e.0.items))) (holds e.0.items),
    of_each es distinct.1 (later e es distinct holds),
  )

abbrev IsKeyed : List ℕ → RecordParts → Type 0
IsKeyed key r = (key_of r ≡ key) × (is_alive r ≡ true)

keys_are : (es : Entries) → AllByRecursion (λ e. IsKeyed e.0.items (record_parts e.1)) es → map key_of (records_of es) ≡ key_bytes es
keys_are [] keyed = refl
keys_are (e ∷ es) keyed = ap (λ k. k ∷ map key_of (records_of es)) keyed.0.0 ∙ ap (λ ks. e.0.items ∷ ks) (keys_are es keyed.1)

first_is_under : (key : List ℕ) (es : Entries) → AllByRecursion (λ e. IsKeyed e.0.items (record_parts e.1)) es → first_of key (records_of es) ≡ under key es
first_is_under key [] keyed = refl
first_is_under key (e ∷ es) keyed = go (first_is_under key es keyed.1) (has_key key e.0) refl
  where
    go : first_of key (records_of es) ≡ under key es → (b : Bool) → has_key key e.0 ≡ b → first_of key (records_of (e ∷ es)) ≡ under key (e ∷ es)
    go again true same =
        ap (λ b. cond b (Some (record_parts e.1)) (first_of key (records_of es))) (ap (same_name key) keyed.0.0 ∙ same)
        ∙ sym (ap (option_map record_parts) (lookup_head (has_key key) e es same))
    go again false other =
        ap (λ b. cond b (Some (record_parts e.1)) (first_of key (records_of es))) (ap (same_name key) keyed.0.0 ∙ other) ∙ again
        ∙ sym (ap (option_map record_parts) (lookup_tail (has_key key) e es other))

all_alive : (es : Entries) → AllByRecursion (λ e. IsKeyed e.0.items (record_parts e.1)) es → AllByRecursion (λ r. is_alive r ≡ true) (records_of es)
all_alive [] keyed = tt
all_alive (e ∷ es) keyed = (keyed.0.1, all_alive es keyed.1)

all_whole : (es : Entries) → AllByRecursion (λ e. IsRecord (record_parts e.1)) es → AllByRecursion IsRecord (records_of es)
all_whole [] whole = tt
all_whole (e ∷ es) whole = (whole.0, all_whole es whole.1)

sorted_bytes : (ks : List (Vec ℕ)) → IsStrictlySortedBy (λ x y. name_cmp x.items y.items) ks → IsStrictlySortedBy name_cmp (map (λ k. k.items) ks)
unfolding IsStrictlySortedBy
sorted_bytes [] sorted = tt
sorted_bytes (k ∷ ks) sorted = (below ks sorted.0, sorted_bytes ks sorted.1)
  where
    below : (others : List (Vec ℕ)) → AllByRecursion (λ y. name_cmp k.items y.items ≡ Less) others →
        AllByRecursion (λ y. name_cmp k.items y ≡ Less) (map (λ k'. k'.items) others)
    below [] all = tt
    below (o ∷ others) all = (all.0, below others all.1)

-- ---- the records of a map

module _ (present : BTreeMap (Vec ℕ) Record) (ordered : IsOrdered (λ x y. name_cmp x.items y.items) present) (keyed : AreKeyed present) where
  sorted_keys : IsStrictlySortedBy name_cmp (key_bytes present.entries)
  sorted_keys = sorted_bytes (keys_of present.entries) ordered

  distinct_keys : IsDistinct same_name (key_bytes present.entries)
  distinct_keys = IsDistinct-from_sorted name_cmp (key_bytes present.entries) sorted_keys

  each_keyed : AllByRecursion (λ e. IsKeyed e.0.items (record_parts e.1)) present.entries
  each_keyed = of_each IsKeyed present.entries distinct_keys keyed

  pub records_sorted : IsStrictlySortedBy name_cmp (map key_of (map record_parts (values present)))
  records_sorted = subst (IsStrictlySortedBy name_cmp) (sym (keys_are present.entries each_keyed)) sorted_keys

  pub records_of_each_one : AreOfEachOne (map record_parts (values present))
  records_of_each_one = subst (IsDistinct same_name) (sym (keys_are present.entries each_keyed)) distinct_keys

  pub first_under : (key : List ℕ) → first_of key (map record_parts (values present)) ≡ record_under present key
  first_under key = first_is_under key present.entries each_keyed

  pub records_alive : AllByRecursion (λ r. is_alive r ≡ true) (map record_parts (values present))
  records_alive = all_alive present.entries each_keyed

  pub records_whole : AreWhole present → AllByRecursion IsRecord (map record_parts (values present))
  records_whole whole = all_whole present.entries (of_each (λ key. IsRecord) present.entries distinct_keys whole)
