-- The records of a set: each is read in one way, and in what order their names are.
use Rattle.std.proofs.Common.{◌≡◌, ℕ, zero, suc, ◌+◌, ◌<◌, ◌≤◌, ◌^◌, T, List, [], ◌∷◌, ◌++◌, length, get_or, take, drop, sym, ap, subst}
use Rattle.std.proofs.Common.{◌∙◌, arith, append_assoc}
use Rattle.std.specs.Int.{w32, from_le_bytes, to_le_bytes}
use Rattle.std.specs.List.{AllByRecursion}
use Rattle.std.specs.List.Sorted.{IsStrictlySortedBy}
use Rattle.std.specs.declared.cmp.Ordering.{Ordering}
use Rattle.std.specs.declared.cmp.Ordering.TheVariants.{Less}
use Rattle.std.specs.Ordering.{is_lt}
use Rattle.std.specs.Cmp.Lexicographic.{nat_list_cmp_total}
use Rattle.std.specs.FinMap.{is_sorted}
use Rattle.std.specs.FinMap.Entries.{below_all}
use Rattle.std.proofs.lemmas.List.{length-append}
use Rattle.std.proofs.lemmas.Nat.{from_le_bytes-to_le_bytes_4}
use Rattle.uefi_vars.specs.declared.named.Named.{Named}
use Rattle.uefi_vars.specs.Vars.{name_cmp, IsData, IsVariable}
use Rattle.uefi_vars.specs.Set.{name_bytes, data_bytes, record_bytes, records_bytes}
use Rattle.uefi_vars.specs.Fault.{IsAbove}
use Rattle.uefi_vars.specs.Records.{pair_of, pairs_of}
use Rattle.uefi_vars.specs.Reader.{names_of}
use Rattle.uefi_vars.proofs.Bytes.{AllByRecursion-append, AllByRecursion-behind}
use Rattle.uefi_vars.proofs.Maps.{sorted_parts, T_from_parts}
use Rattle.uefi_vars.proofs.Bytes.{same_size}

-- a name and its data
abbrev pub Pair : Type 0
Pair = List ℕ × List ℕ

-- ---- one record

pub same_len : (n m : ℕ) (x y : List ℕ) → n < 2 ^ 32 → m < 2 ^ 32 → to_le_bytes w32 n ++ x ≡ to_le_bytes w32 m ++ y → (n ≡ m) × (x ≡ y)
same_len n m x y fits-n fits-m e =
    let read : from_le_bytes w32 (to_le_bytes w32 n) ≡ from_le_bytes w32 (to_le_bytes w32 m) = ap (λ (t : List ℕ). from_le_bytes w32 (take 4 t)) e in
    (sym (from_le_bytes-to_le_bytes_4 n fits-n) ∙ read ∙ from_le_bytes-to_le_bytes_4 m fits-m, ap (drop 4) e)

pub same_name : (a b x y : List ℕ) → name_bytes a ++ x ≡ name_bytes b ++ y → (a ≡ b) × (x ≡ y)
same_name a b x y e = same_size a b x y (cc) (cc)

-- the length of data is one that four bytes state
pub data_len : (value : List ℕ) → IsData value → length value < 2 ^ 32
data_len value is = let len = is.len in omega (arith, len)

pub same_data : (a b x y : List ℕ) → IsData a → IsData b → data_bytes a ++ x ≡ data_bytes b ++ y → (a ≡ b) × (x ≡ y)
same_data a b x y is-a is-b e =
    let len = same_len (length a) (length b) (a ++ x) (b ++ y) (data_len a is-a) (data_len b is-b)
    (sym (append_assoc (to_le_bytes w32 (length a)) a x) ∙ e ∙ append_assoc (to_le_bytes w32 (length b)) b y) in
    same_size a b x y len.0 len.1

pub same_record : (v w : Pair) (x y : List ℕ) → IsVariable v → IsVariable w → record_bytes v ++ x ≡ record_bytes w ++ y → (v ≡ w) × (x ≡ y)
same_record v w x y is-v is-w e =
    let names = same_name v.0 w.0 (data_bytes v.1 ++ x) (data_bytes w.1 ++ y)
    (sym (append_assoc (name_bytes v.0) (data_bytes v.1) x) ∙ e ∙ append_assoc (name_bytes w.0) (data_bytes w.1) y) in
    let values = same_data v.1 w.1 x y is-v.1 is-w.1 names.1 in
    (ap (λ (name : List ℕ). (name, v.1)) names.0 ∙ ap (λ (value : List ℕ). (w.0, value)) values.0, values.1)

-- the records before one variable and its own have no more bytes than all
pub length-records_bytes-take : (variables : List (Named (List ℕ))) (i : ℕ) (variable : Named (List ℕ)) → i < length variables →
    variable ≡ get_or variables i variable → length (records_bytes (pairs_of (take i variables))) + length
    (record_bytes (pair_of variable)) ≤ length (records_bytes (pairs_of variables))
length-records_bytes-take [] i variable within is = absurd (omega (arith, within))
length-records_bytes-take (v ∷ variables) zero variable within is =
    let same = ap (λ (w : Named (List ℕ)). length (record_bytes (pair_of w))) is in
    omega (arith, same, length-append (record_bytes (pair_of v)) (records_bytes (pairs_of variables)))
length-records_bytes-take (v ∷ variables) (suc i) variable within is =
    omega (
      arith,
      length-records_bytes-take variables i variable (omega (arith, within)) is,
      length-append (record_bytes (pair_of v)) (records_bytes (pairs_of variables)),
      length-append (record_bytes (pair_of v)) (records_bytes (pairs_of (take i variables))),
    )

-- ---- names that rise

pub none_rise : {K : Type 0} (R : K → K → Ordering) → IsStrictlySortedBy R []
unfolding IsStrictlySortedBy
none_rise R = tt

-- each of rising names is above those before it
pub above_front : (names : List (List ℕ)) (name : List ℕ) (others : List (List ℕ)) → IsStrictlySortedBy name_cmp (names ++ name ∷ others) → IsAbove names name
unfolding IsStrictlySortedBy
above_front [] name others rising = tt
above_front (n ∷ names) name others rising =
    ((AllByRecursion-behind (λ (m : List ℕ). name_cmp n m ≡ Less) names (name ∷ others) rising.0).0, above_front names name others rising.1)

-- a key above rising keys, as a name above rising names
pub one_above : {K : Type 0} (R : K → K → Ordering) (keys : List K) (key : K) → IsStrictlySortedBy R keys →
    AllByRecursion (λ before. R before key ≡ Less) keys → IsStrictlySortedBy R (keys ++ key ∷ [])
unfolding IsStrictlySortedBy
one_above R [] key rising above = (tt, tt)
one_above R (k ∷ keys) key rising above =
    (AllByRecursion-append (λ m. R k m ≡ Less) keys (key ∷ []) rising.0 (above.0, tt), one_above R keys key rising.1 above.1)

-- what is above the last of rising names is above each
pub above_last : (names : List (List ℕ)) (last name : List ℕ) → IsStrictlySortedBy name_cmp (names ++ last ∷ []) →
    name_cmp last name ≡ Less → IsAbove (names ++ last ∷ []) name
unfolding IsStrictlySortedBy
above_last [] last name rising above = (above, tt)
above_last (n ∷ names) last name rising above =
    let below : name_cmp n last ≡ Less = (AllByRecursion-behind (λ (m : List ℕ). name_cmp n m ≡ Less) names (last ∷ []) rising.0).0 in
    (nat_list_cmp_total.trans n last name below above, above_last names last name rising.1 above)

-- ---- the same of entries, by a test

below_names : (name : List ℕ) (pairs : List Pair) → AllByRecursion (λ (p : Pair). name_cmp name p.0 ≡ Less) pairs →
    AllByRecursion (λ (m : List ℕ). name_cmp name m ≡ Less) (names_of pairs)
below_names name [] below = tt
below_names name (p ∷ pairs) below = (below.0, below_names name pairs below.1)

pub names_rise : (pairs : List Pair) → T (is_sorted name_cmp pairs) → IsStrictlySortedBy name_cmp (names_of pairs)
unfolding IsStrictlySortedBy
names_rise [] sorted = tt
names_rise (p ∷ pairs) sorted = let parts = sorted_parts name_cmp p pairs sorted in (below_names p.0 pairs parts.0, names_rise pairs parts.1)

names_below : (name : List ℕ) (pairs : List Pair) → AllByRecursion (λ (m : List ℕ). name_cmp name m ≡ Less) (names_of pairs) → T (below_all name_cmp name pairs)
names_below name [] below = tt
names_below name (p ∷ pairs) below = T_from_parts _ _ (subst (λ (o : Ordering). T (is_lt o)) (sym below.0) tt) (names_below name pairs below.1)

pub pairs_rise : (pairs : List Pair) → IsStrictlySortedBy name_cmp (names_of pairs) → T (is_sorted name_cmp pairs)
unfolding IsStrictlySortedBy
pairs_rise [] rising = tt
pairs_rise (p ∷ pairs) rising = T_from_parts _ _ (names_below p.0 pairs rising.0) (pairs_rise pairs rising.1)
