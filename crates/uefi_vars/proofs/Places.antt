-- A key's place among sorted entries: how a search finds it, and what is found, put and removed there.
use Rattle.std.proofs.Common.{◌≡◌, ◌≢◌, ℕ, zero, suc, ◌<◌, true, cond, not, T, List, [], ◌∷◌, map, length, take, drop, set, get_or}
use Rattle.std.proofs.Common.{slice_get, Some, None, IsSomeAnd, is_some, option_map, Result, Ok, Err, IfOk, IfErr, refl, sym, ap, subst}
use Rattle.std.proofs.Common.{◌∙◌, arith}
use Rattle.std.specs.List.{take-map, drop-map, AllByRecursion, AllWithin, HoldsAt, insert, remove}
use Rattle.std.specs.List.Sorted.{IsSortedBy, IsSearchInRange, IsBinarySearchResult}
use Rattle.std.specs.Ordering.{is_eq, is_lt, ordering_reverse, eq_by_cmp}
use Rattle.std.specs.declared.cmp.Ordering.{Ordering}
use Rattle.std.specs.declared.cmp.Ordering.TheVariants.{Less, Equal, Greater}
use Rattle.std.specs.Cmp.{IsTotalOrder}
use Rattle.std.specs.Fn.{Called, ComputesKey}
use Rattle.std.specs.FinMap.Entries.{find, put, where_key, is_sorted, by_order}
use Rattle.std.proofs.lemmas.Cmp.{tied_itself, nat_list_cmp_total}
use Rattle.std.proofs.lemmas.Fn.{always_returns_same}
use Rattle.std.proofs.lemmas.List.{length-map, map-append}
use Rattle.std.proofs.lemmas.List.Sorted.{searchable_from_sorted}
use denote.Param.Members.{Mut}
use denote.Ref.{Bor}
use native.Mathlib.Numerals.{unary_clauses}
use Rattle.uefi_vars.specs.Vars.{name_cmp}
use Rattle.uefi_vars.specs.Records.{IsAt, IsGap}
use Rattle.uefi_vars.proofs.Maps.{sorted_parts, find_below, name_cmp-IsAntisymmetric}

module _ {K : Type 0} (R : K → K → Ordering) (o : IsTotalOrder R) (key x : K) where
  after : R x key ≡ Less → R key x ≡ Greater
  after h = o.antisymm key x ∙ ap ordering_reverse h

  tied : x ≡ key → R key x ≡ Equal
  tied h = ap (R key) h ∙ tied_itself o key

module _ {K X : Type 0} (R : K → K → Ordering) (o : IsTotalOrder R) (key : K) where
  abbrev AllBelow : List (K × X) → Type 0
  AllBelow es = AllByRecursion (λ e. R e.0 key ≡ Less) es

  abbrev AllAbove : List (K × X) → Type 0
  AllAbove es = AllByRecursion (λ e. R key e.0 ≡ Less) es

  -- the entry at this place has the key
  abbrev IsNamed : List (K × X) → ℕ → Type 0
  IsNamed es place = IsSomeAnd (slice_get es place) (λ e. e.0 ≡ key)

  -- the entries without the key
  abbrev without : List (K × X) → List (K × X)
  without es = where_key R (λ x. not (eq_by_cmp R key x)) es

  put_first : (value : X) (e : K × X) (es : List (K × X)) (r : Ordering) → R key e.0 ≡ r →
      put R key value (e ∷ es) ≡ by_order r ((key, value) ∷ e ∷ es) ((e.0, value) ∷ es) (e ∷ put R key value es)
  put_first value e es r h = ap (λ q. by_order q ((key, value) ∷ e ∷ es) ((e.0, value) ∷ es) (e ∷ put R key value es)) h

  find_first : (e : K × X) (es : List (K × X)) (r : Ordering) → R key e.0 ≡ r → find R key (e ∷ es) ≡ cond (is_eq r) (Some e.1) (find R key es)
  find_first e es r h = ap (λ q. cond (is_eq q) (Some e.1) (find R key es)) h

  without_first : (e : K × X) (es : List (K × X)) (r : Ordering) → R key e.0 ≡ r → without (e ∷ es) ≡ cond (not (is_eq r)) (e ∷ without es) (without es)
  without_first e es r h = ap (λ q. cond (not (is_eq q)) (e ∷ without es) (without es)) h

  -- at the key's place

  pub find_at : (es : List (K × X)) (place : ℕ) → AllBelow (take place es) → IsNamed es place → find R key es ≡ option_map (λ e. e.1) (slice_get es place)
  find_at [] place below named = absurd named
  find_at (e ∷ es) zero below named = find_first e es Equal (tied R o key e.0 named)
  find_at (e ∷ es) (suc place) below named = find_first e es Greater (after R o key e.0 below.0) ∙ find_at es place below.1 named

  pub put_at : (value : X) (es : List (K × X)) (place : ℕ) → AllBelow (take place es) → IsNamed es place → put R key value es ≡ set es place (key, value)
  put_at value [] place below named = absurd named
  put_at value (e ∷ es) zero below named = put_first value e es Equal (tied R o key e.0 named) ∙ ap (λ k. (k, value) ∷ es) named
  put_at value (e ∷ es) (suc place) below named = put_first value e es Greater (after R o key e.0 below.0)
      ∙ ap (λ l. e ∷ l) (put_at value es place below.1 named)

  without_above : (es : List (K × X)) → AllAbove es → without es ≡ es
  without_above [] h = refl
  without_above (e ∷ es) h = without_first e es Less h.0 ∙ ap (λ l. e ∷ l) (without_above es h.1)

  pub without_at : (es : List (K × X)) (place : ℕ) → AllBelow (take place es) → IsNamed es place → AllAbove (drop (suc place) es) → without es ≡ remove es place
  without_at [] place below named above = absurd named
  without_at (e ∷ es) zero below named above = without_first e es Equal (tied R o key e.0 named) ∙ without_above es above
  without_at (e ∷ es) (suc place) below named above = without_first e es Greater (after R o key e.0 below.0)
      ∙ ap (λ l. e ∷ l) (without_at es place below.1 named above)

  -- at the gap where it would go

  pub find_gap : (es : List (K × X)) (place : ℕ) → AllBelow (take place es) → AllAbove (drop place es) → find R key es ≡ None
  find_gap es zero below above = find_below R key es above
  find_gap [] (suc place) below above = refl
  find_gap (e ∷ es) (suc place) below above = find_first e es Greater (after R o key e.0 below.0) ∙ find_gap es place below.1 above

  pub put_gap : (value : X) (es : List (K × X)) (place : ℕ) → AllBelow (take place es) → AllAbove (drop place es) →
      put R key value es ≡ insert es place (key, value)
  put_gap value [] zero below above = refl
  put_gap value [] (suc place) below above = refl
  put_gap value (e ∷ es) zero below above = put_first value e es Less above.0
  put_gap value (e ∷ es) (suc place) below above = put_first value e es Greater (after R o key e.0 below.0)
      ∙ ap (λ l. e ∷ l) (put_gap value es place below.1 above)

  pub without_gap : (es : List (K × X)) (place : ℕ) → AllBelow (take place es) → AllAbove (drop place es) → without es ≡ es
  without_gap es zero below above = without_above es above
  without_gap [] (suc place) below above = refl
  without_gap (e ∷ es) (suc place) below above = without_first e es Greater (after R o key e.0 below.0) ∙ ap (λ l. e ∷ l) (without_gap es place below.1 above)

  -- a sorted list is below the key before its place, and above the key after it

  below_at : (x : K) (es : List (K × X)) (place : ℕ) → AllByRecursion (λ e. R x e.0 ≡ Less) es → IsNamed es place → R x key ≡ Less
  below_at x [] place h named = absurd named
  below_at x (e ∷ es) zero h named = sym (ap (R x) named) ∙ h.0
  below_at x (e ∷ es) (suc place) h named = below_at x es place h.1 named

  pub sorted_below : (es : List (K × X)) (place : ℕ) → T (is_sorted R es) → IsNamed es place → AllBelow (take place es)
  sorted_below [] place rising named = absurd named
  sorted_below (e ∷ es) zero rising named = tt
  sorted_below (e ∷ es) (suc place) rising named =
      let parts = sorted_parts R e es rising in
      (below_at e.0 es place parts.0 named, sorted_below es place parts.1 named)

  sorted_above : (es : List (K × X)) (place : ℕ) → T (is_sorted R es) → IsNamed es place → AllAbove (drop (suc place) es)
  sorted_above [] place rising named = absurd named
  sorted_above (e ∷ es) zero rising named = subst (λ k. AllByRecursion (λ f. R k f.0 ≡ Less) es) named (sorted_parts R e es rising).0
  sorted_above (e ∷ es) (suc place) rising named = sorted_above es place (sorted_parts R e es rising).1 named

-- going over sorted names once, up to one

pub not_below_itself : (name : List ℕ) → name_cmp name name ≢ Less
not_below_itself name less = let tie = tied_itself nat_list_cmp_total name in cc

pub not_below_lower : (low high : List ℕ) → name_cmp low high ≡ Less → name_cmp high low ≢ Less
not_below_lower low high less back = let greater = after name_cmp nat_list_cmp_total high low less in cc

module _ {X : Type 0} (name : List ℕ) (p : List ℕ × X) (pairs : List (List ℕ × X)) where
  -- a lower pair is passed: the names from this one on are found after it
  pub find_behind : name_cmp p.0 name ≡ Less → (other : List ℕ) → name_cmp other name ≢ Less → find name_cmp other pairs ≡ find name_cmp other (p ∷ pairs)
  find_behind less other from =
      elim (name_cmp other p.0) as (λ r. name_cmp other p.0 ≡ r → find name_cmp other pairs ≡ cond (is_eq r) (Some p.1) (find name_cmp other pairs)) [
        | Less ↦ λ t. refl
        | Equal ↦ λ t. absurd (from (ap (λ k. name_cmp k name) (name_cmp-IsAntisymmetric other p.0 t) ∙ less))
        | Greater ↦ λ t. refl
      ] refl

  pub find_here : name_cmp p.0 name ≡ Equal → find name_cmp name (p ∷ pairs) ≡ Some p.1
  find_here equal =
      find_first name_cmp nat_list_cmp_total name p pairs Equal (tied name_cmp nat_list_cmp_total name p.0 (name_cmp-IsAntisymmetric p.0 name equal))

  all_above : (low : List ℕ) → name_cmp low name ≡ Less → (es : List (List ℕ × X)) →
      AllByRecursion (λ e. name_cmp name e.0 ≡ Less) es → AllByRecursion (λ e. name_cmp low e.0 ≡ Less) es
  all_above low less [] h = tt
  all_above low less (e ∷ es) h = (nat_list_cmp_total.trans low name e.0 less h.0, all_above low less es h.1)

-- a greater pair at the start leaves none of the name
pub find_none : {X : Type 0} (name : List ℕ) (p : List ℕ × X) (pairs : List (List ℕ × X)) → T (is_sorted name_cmp (p ∷ pairs)) →
    name_cmp p.0 name ≡ Greater → find name_cmp name (p ∷ pairs) ≡ None
find_none name p pairs rising greater =
    let less : name_cmp name p.0 ≡ Less = nat_list_cmp_total.antisymm name p.0 ∙ ap ordering_reverse greater in
    find_below name_cmp name (p ∷ pairs) (less, all_above p.0 p pairs name less pairs (sorted_parts name_cmp p pairs rising).0)

-- what a search says of places in a list is so of the entries made of its items
module _ {A E : Type 0} (f : A → E) (P : E → Type 0) where
  all_before : (xs : List A) (place : ℕ) → AllWithin (λ x. P (f x)) xs 0 place → AllByRecursion P (take place (map f xs))
  all_before xs zero h = tt
  all_before [] (suc place) h = tt
  all_before (x ∷ xs) (suc place) h = (h 0 x (omega arith) (omega arith), all_before xs place (λ k d low high. h (suc k) d (omega arith) (omega arith)))

  all_from : (xs : List A) (place : ℕ) → AllWithin (λ x. P (f x)) xs place (length xs) → AllByRecursion P (drop place (map f xs))
  all_from [] zero h = tt
  all_from [] (suc place) h = tt
  all_from (x ∷ xs) zero h = (h 0 x (omega arith) (omega arith), all_from xs zero (λ k d low high. h (suc k) d (omega arith) (omega arith)))
  all_from (x ∷ xs) (suc place) h = all_from xs place (λ k d low high. h (suc k) d (omega arith) (omega arith))

  one_at : (xs : List A) (place : ℕ) → place < length xs → HoldsAt (λ x. P (f x)) xs place → IsSomeAnd (slice_get (map f xs) place) P
  one_at [] place within h = absurd (omega arith)
  one_at (x ∷ xs) zero within h = h x
  one_at (x ∷ xs) (suc place) within h = one_at xs place (omega arith) h

  pub item_at : (xs : List A) (place : ℕ) (d : A) → IsSomeAnd (slice_get (map f xs) place) P → P (f (get_or xs place d))
  item_at [] place d h = absurd h
  item_at (x ∷ xs) zero d h = h
  item_at (x ∷ xs) (suc place) d h = item_at xs place d h

pub some_at : {E X : Type 0} (f : E → X) (es : List E) (place : ℕ) → place < length es → is_some (option_map f (slice_get es place)) ≡ true
some_at f [] place within = absurd (omega arith)
some_at f (e ∷ es) zero within = refl
some_at f (e ∷ es) (suc place) within = some_at f es place (omega arith)

pub map-insert : {A E : Type 0} (f : A → E) (xs : List A) (place : ℕ) (x : A) → map f (insert xs place x) ≡ insert (map f xs) place (f x)
map-insert f xs place x = simp (map-append, take-map, drop-map)

pub map-remove : {A E : Type 0} (f : A → E) (xs : List A) (place : ℕ) → map f (remove xs place) ≡ remove (map f xs) place
map-remove f xs place = simp (map-append, take-map, drop-map)

module _ {A K X : Type 0} (R : K → K → Ordering) (o : IsTotalOrder R) (f : A → K × X) where
  -- items whose entries are sorted are in the order of their keys
  in_order : (xs : List A) → T (is_sorted R (map f xs)) → IsSortedBy (λ a b. is_lt (R (f a).0 (f b).0)) xs
  in_order [] rising k d low high = absurd (omega arith)
  in_order (x ∷ []) rising k d low high = absurd (omega arith)
  in_order (x ∷ y ∷ xs) rising zero d low high = ap is_lt (after R o (f y).0 (f x).0 (sorted_parts R (f x) (map f (y ∷ xs)) rising).0.0)
  in_order (x ∷ y ∷ xs) rising (suc k) d low high = simp unary_clauses
      (simp unary_clauses at (in_order (y ∷ xs) (sorted_parts R (f x) (map f (y ∷ xs)) rising).1 k d (omega arith) (omega arith)))

module _ {A X : Type 0} (f : A → List ℕ × X) (xs : List A) (rising : T (is_sorted name_cmp (map f xs))) (name : List ℕ) where
  named_at : (place : ℕ) → place < length xs → HoldsAt (λ x. name_cmp (f x).0 name ≡ Equal) xs place → IsAt (map f xs) name place
  named_at place within equal =
      let named : IsSomeAnd (slice_get (map f xs) place) (λ p. p.0 ≡ name) =
      one_at f (λ p. p.0 ≡ name) xs place within (λ d. name_cmp-IsAntisymmetric _ name (equal d)) in
      record {
        within = omega (arith, length-map xs f);
        named = named;
        below = sorted_below name_cmp nat_list_cmp_total name (map f xs) place rising named;
        above = sorted_above name_cmp nat_list_cmp_total name (map f xs) place rising named;
      }

  located : (r : Result ℕ ℕ) → IsSearchInRange r (length xs) → IsBinarySearchResult (λ x. name_cmp (f x).0 name) xs r →
      record { found : IfOk r (IsAt (map f xs) name); absent : IfErr r (IsGap (map f xs) name) }
  located (Ok place) within equal = record { found = named_at place within equal; absent = tt }
  located (Err place) within parted =
      let point = parted (searchable_from_sorted nat_list_cmp_total (λ x. (f x).0) xs name (in_order name_cmp nat_list_cmp_total f xs rising)) in
      record {
        found = tt;
        absent = record {
          within = omega (arith, length-map xs f);
          below = all_before f (λ p. name_cmp p.0 name ≡ Less) xs place point.0;
          above = all_from f (λ p. name_cmp name p.0 ≡ Less) xs place
              (λ k d low high. nat_list_cmp_total.antisymm name (f (get_or xs k d)).0 ∙ ap ordering_reverse (point.1 k d low high));
        };
      }

  -- a binary search by name ends at the name or at its gap
  pub searched : {F : Type 0} {g : Mut F (Bor A × Unit {0}) Ordering} {state : F} (r : Result ℕ ℕ) → IsSearchInRange r (length xs)
      → ((order : A → Ordering) → ComputesKey g order state → IsBinarySearchResult order xs r)
      → ((a : Bor A × Unit {0}) (answer : Ordering) (next : F) → Called g state a answer next → (answer ≡ name_cmp (f a.0.now).0 name) × (next ≡ state))
      → record { found : IfOk r (IsAt (map f xs) name); absent : IfErr r (IsGap (map f xs) name) }
  searched r within position answers = located r within (position (λ x. name_cmp (f x).0 name) (always_returns_same _ _ _ answers))
