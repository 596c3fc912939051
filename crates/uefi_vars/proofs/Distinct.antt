-- Names of which no two are the same.
use Rattle.std.proofs.Common.{◌≡◌, ℕ, zero, suc, Bool, true, false, cond, T, ◌&&◌, List, [], ◌∷◌, ◌++◌, map, take, Some, refl, subst, ◌∙◌}
use Rattle.std.specs.List.{AllByRecursion, IsDistinct, list_any, filter, slice_get}
use Rattle.std.specs.Ordering.{is_eq, is_lt}
use Rattle.std.specs.declared.cmp.Ordering.{Ordering}
use Rattle.std.specs.declared.cmp.Ordering.TheVariants.{Less, Equal, Greater}
use Rattle.std.specs.FinMap.{keys, entries, entries_sorted}
use Rattle.std.specs.FinMap.Entries.{is_sorted, below_all}
use Rattle.std.proofs.lemmas.Bool.{or_parts, or_from, or_left, or_right}
use Rattle.std.proofs.lemmas.Cmp.{nat_list_cmp_total, eq_by_cmp_equiv}
use Rattle.uefi_vars.specs.Vars.{Variables, name_cmp}
use Rattle.uefi_vars.specs.BootChange.{same_name}
use Rattle.uefi_vars.proofs.NameTests.{same_name-refl}

-- the name is none of these
abbrev pub IsApart : List ℕ → List (List ℕ) → Type 0
IsApart name names = AllByRecursion (λ other. same_name name other ≡ false) names

same_name-symm : (a b : List ℕ) → same_name a b ≡ same_name b a
same_name-symm a b = (eq_by_cmp_equiv nat_list_cmp_total).symm a b

T_parts : (a b : Bool) → T (a && b) → T a × T b
T_parts true b h = (tt, h)
T_parts false b h = absurd h

-- ---- the names of variables

below_apart : (r : Ordering) → T (is_lt r) → is_eq r ≡ false
below_apart Less h = refl
below_apart Equal h = absurd h
below_apart Greater h = refl

pairs_apart : (name : List ℕ) (pairs : List (List ℕ × List ℕ)) → T (below_all name_cmp name pairs) → IsApart name (map (λ e. e.0) pairs)
pairs_apart name [] h = tt
pairs_apart name (p ∷ pairs) h = let parts = T_parts _ _ h in (below_apart (name_cmp name p.0) parts.0, pairs_apart name pairs parts.1)

pairs_distinct : (pairs : List (List ℕ × List ℕ)) → T (is_sorted name_cmp pairs) → IsDistinct same_name (map (λ e. e.0) pairs)
unfolding IsDistinct
pairs_distinct [] h = tt
pairs_distinct (p ∷ pairs) h = let parts = T_parts _ _ h in (pairs_apart p.0 pairs parts.0, pairs_distinct pairs parts.1)

pub keys_distinct : (vars : Variables) → IsDistinct same_name (keys vars)
keys_distinct vars = pairs_distinct (entries vars) (entries_sorted vars)

-- ---- fewer names, and more

filter_apart : (p : List ℕ → Bool) (name : List ℕ) (names : List (List ℕ)) → IsApart name names → IsApart name (filter p names)
filter_apart p name [] h = tt
filter_apart p name (n ∷ names) h =
    elim (p n) as (λ b. IsApart name (cond b (n ∷ filter p names) (filter p names)))
    [ true ↦ (h.0, filter_apart p name names h.1) | false ↦ filter_apart p name names h.1 ]

pub filter_distinct : (p : List ℕ → Bool) (names : List (List ℕ)) → IsDistinct same_name names → IsDistinct same_name (filter p names)
unfolding IsDistinct
filter_distinct p [] h = tt
filter_distinct p (n ∷ names) h =
    elim (p n) as (λ b. IsDistinct same_name (cond b (n ∷ filter p names) (filter p names))) [
      | true ↦ (filter_apart p n names h.0, filter_distinct p names h.1)
      | false ↦ filter_distinct p names h.1
    ]

apart_of_none : (name : List ℕ) (names : List (List ℕ)) → list_any (same_name name) names ≡ false → IsApart name names
apart_of_none name [] h = tt
apart_of_none name (n ∷ names) h = let parts = or_parts _ _ h in (parts.0, apart_of_none name names parts.1)

append_apart : (name : List ℕ) (xs ys : List (List ℕ)) → IsApart name xs → IsApart name ys → IsApart name (xs ++ ys)
append_apart name [] ys h k = k
append_apart name (x ∷ xs) ys h k = (h.0, append_apart name xs ys h.1 k)

pub append_distinct : (xs ys : List (List ℕ)) → IsDistinct same_name xs → IsDistinct same_name ys →
    ((name : List ℕ) → list_any (same_name name) xs ≡ true → list_any (same_name name) ys ≡ false) →
    IsDistinct same_name (xs ++ ys)
unfolding IsDistinct
append_distinct [] ys h k other = k
append_distinct (x ∷ xs) ys h k other = (
  append_apart x xs ys h.0 (apart_of_none x ys (other x (or_left _ _ (same_name-refl x)))),
  append_distinct xs ys h.1 k (λ name is. other name (or_right _ _ is)),
)

-- ---- by place

apart_at : (name : List ℕ) (names : List (List ℕ)) (k : ℕ) (other : List ℕ) → IsApart name names → slice_get names k ≡ Some other → same_name other name ≡ false
apart_at name [] k other h e = cc
apart_at name (n ∷ names) zero other h e = let same : n ≡ other = cc in same_name-symm other name ∙ subst (λ (m : List ℕ). same_name name m ≡ false) same h.0
apart_at name (n ∷ names) (suc k) other h e = apart_at name names k other h.1 e

-- a name isn't among those before it
pub before_apart : (names : List (List ℕ)) (k : ℕ) (name : List ℕ) → IsDistinct same_name names → slice_get names k ≡ Some name →
    list_any (same_name name) (take k names) ≡ false
unfolding IsDistinct
before_apart [] k name h e = cc
before_apart (n ∷ names) zero name h e = refl
before_apart (n ∷ names) (suc k) name h e = or_from _ _ (apart_at n names k name h.0 e) (before_apart names k name h.1 e)
