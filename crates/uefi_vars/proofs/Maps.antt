-- Finite maps and lists of entries in the order of their keys: a fact of what is stored under each key is one of each entry.
use Rattle.std.proofs.Common.{◌≡◌, ℕ, Bool, true, false, cond, not, ◌&&◌, T, List, [], ◌∷◌, length, Contains, Option, Some, None, IfSome}
use Rattle.std.proofs.Common.{refl, sym, ap, subst, ◌∙◌}
use Rattle.std.specs.List.{AllByRecursion, filter}
use Rattle.std.specs.Ordering.{is_eq, is_lt, eq_by_cmp}
use Rattle.std.specs.declared.cmp.Ordering.{Ordering}
use Rattle.std.specs.declared.cmp.Ordering.TheVariants.{Less, Equal, Greater}
use Rattle.std.specs.Cmp.{IsTotalOrder}
use Rattle.std.specs.FinMap.{IsAntisymmetric, empty, entries, entries_sorted, entries-from_sorted, from_sorted, get, get-entries, len}
use Rattle.std.specs.FinMap.{len-entries, empty_of_len, get-from_sorted, same_map, same_entries_map, insert, remove, entries-insert}
use Rattle.std.specs.FinMap.{get-remove, nat_cmp-IsAntisymmetric, slice_cmp-IsAntisymmetric}
use Rattle.std.specs.FinMap.Entries.{find, put, by_order, is_sorted, below_all, is_sorted-put, is_sorted-where_key, find-where_key}
use Rattle.std.proofs.lemmas.Cmp.{tied_itself, alike_right, eq_by_cmp_equiv, nat_list_cmp_total}
use Rattle.std.proofs.lemmas.List.{length-map}
use Rattle.std.proofs.lemmas.List.Elements.{All-contains, All-contains_itself, All-from_recursion, recursion_from_All}
use Rattle.uefi_vars.specs.declared.named.Named.{Named}
use Rattle.uefi_vars.specs.Vars.{Variables, name_cmp, IsVariable, IsVars}
use Rattle.uefi_vars.specs.Records.{pair_of, pairs_of, AreVariables, vars_of, without}

-- two names that tie are one
pub name_cmp-IsAntisymmetric : IsAntisymmetric name_cmp
name_cmp-IsAntisymmetric = slice_cmp-IsAntisymmetric nat_cmp-IsAntisymmetric

pub T_parts : (a b : Bool) → T (a && b) → T a × T b
T_parts true b h = (tt, h)
T_parts false b h = absurd h

pub T_from_parts : (a b : Bool) → T a → T b → T (a && b)
T_from_parts true b g h = h
T_from_parts false b g h = absurd g

less : (r : Ordering) → T (is_lt r) → r ≡ Less
less Less h = refl
less Equal h = absurd h
less Greater h = absurd h

-- what is found under the key, if anything, is an entry with the property
abbrev IsEach : {K X : Type 0} → (K × X → Type 0) → K → Option X → Type 0
IsEach P key found = IfSome found (λ value. P (key, value))

module _ {K X : Type 0} (R : K → K → Ordering) where
  each_above : (key : K) (es : List (K × X)) → T (below_all R key es) → AllByRecursion (λ e. R key e.0 ≡ Less) es
  each_above key [] h = tt
  each_above key (e ∷ es) h = let parts = T_parts _ _ h in (less _ parts.0, each_above key es parts.1)

  -- the entries after the first have greater keys, and are sorted
  pub sorted_parts : (e : K × X) (es : List (K × X)) → T (is_sorted R (e ∷ es)) → AllByRecursion (λ f. R e.0 f.0 ≡ Less) es × T (is_sorted R es)
  sorted_parts e es h = let parts = T_parts _ _ h in (each_above e.0 es parts.0, parts.1)

  -- a key below all isn't found
  pub find_below : (key : K) (es : List (K × X)) → AllByRecursion (λ e. R key e.0 ≡ Less) es → find R key es ≡ None
  find_below key [] h = refl
  find_below key (e ∷ es) h = ap (λ r. cond (is_eq r) (Some e.1) (find R key es)) h.0 ∙ find_below key es h.1

module _ {K X : Type 0} {R : K → K → Ordering} (same : IsAntisymmetric R) (P : K × X → Type 0) where
  pub found_each : (es : List (K × X)) → AllByRecursion P es → (q : K) → IsEach P q (find R q es)
  found_each [] h q = tt
  found_each (e ∷ es) h q =
      elim (R q e.0) as (λ r. R q e.0 ≡ r → IsEach P q (cond (is_eq r) (Some e.1) (find R q es))) [
        | Less ↦ λ t. found_each es h.1 q
        | Equal ↦ λ t. subst (λ k. P (k, e.1)) (sym (same q e.0 t)) h.0
        | Greater ↦ λ t. found_each es h.1 q
      ] refl

  found_behind : (e : K × X) (es : List (K × X)) → AllByRecursion (λ f. R e.0 f.0 ≡ Less) es → (q : K) →
      IsEach P q (find R q (e ∷ es)) → IsEach P q (find R q es)
  found_behind e es above q h =
      elim (R q e.0) as (λ r. R q e.0 ≡ r → IsEach P q (cond (is_eq r) (Some e.1) (find R q es)) → IsEach P q (find R q es)) [
        | Less ↦ λ t g. g
        | Equal ↦ λ t g. subst (IsEach P q) (sym (ap (λ k. find R k es) (same q e.0 t) ∙ find_below R e.0 es above)) tt
        | Greater ↦ λ t g. g
      ] refl h

  each_found : IsTotalOrder R → (es : List (K × X)) → T (is_sorted R es) → ((q : K) → IsEach P q (find R q es)) → AllByRecursion P es
  each_found o [] rising h = tt
  each_found o (e ∷ es) rising h =
      let parts = sorted_parts R e es rising in (
        subst (λ r. IsEach P e.0 (cond (is_eq r) (Some e.1) (find R e.0 es))) (tied_itself o e.0) (h e.0),
        each_found o es parts.1 (λ q. found_behind e es parts.0 q (h q)),
      )

  -- a new entry with the property, put among some, leaves all with it
  pub put_each : (key : K) (value : X) (es : List (K × X)) → P (key, value) → AllByRecursion P es → AllByRecursion P (put R key value es)
  put_each key value [] p h = (p, tt)
  put_each key value (e ∷ es) p h =
      elim (R key e.0) as (λ r. R key e.0 ≡ r → AllByRecursion P (by_order r ((key, value) ∷ e ∷ es) ((e.0, value) ∷ es) (e ∷ put R key value es))) [
        | Less ↦ λ t. (p, h)
        | Equal ↦ λ t. (subst (λ k. P (k, value)) (same key e.0 t) p, h.1)
        | Greater ↦ λ t. (h.0, put_each key value es p h.1)
      ] refl

some_itself : {X : Type 0} (o : Option X) → IfSome o (λ x. o ≡ Some x)
some_itself None = tt
some_itself (Some x) = refl

filter_each : {E : Type 0} (P : E → Type 0) (test : E → Bool) (es : List E) → AllByRecursion P es → AllByRecursion P (filter test es)
filter_each P test [] h = tt
filter_each P test (e ∷ es) h =
    elim (test e) as (λ b. AllByRecursion P (cond b (e ∷ filter test es) (filter test es)))
    [ true ↦ (h.0, filter_each P test es h.1) | false ↦ filter_each P test es h.1 ]

flipped : {A : Type 0} (b : Bool) (x y : A) → cond (not b) x y ≡ cond b y x
flipped true x y = refl
flipped false x y = refl

-- each entry of a map of variables is a variable
pub entries-AllByRecursion : (vars : Variables) → IsVars vars → AllByRecursion IsVariable (entries vars)
entries-AllByRecursion vars h =
    each_found name_cmp-IsAntisymmetric IsVariable nat_list_cmp_total (entries vars) (entries_sorted vars)
    (λ q. subst (IsEach IsVariable q) (get-entries vars q) (h q))

-- what an entry of a map holds is found under its name
pub get_contained : (vars : Variables) (p : List ℕ × List ℕ) → Contains (entries vars) p → get vars p.0 ≡ Some p.1
get_contained vars p among =
    let IsFound : List ℕ × List ℕ → Type 0 = λ q. get vars q.0 ≡ Some q.1 in
    let each = each_found name_cmp-IsAntisymmetric IsFound nat_list_cmp_total (entries vars) (entries_sorted vars)
    (λ q. subst (IsEach IsFound q) (get-entries vars q) (some_itself (get vars q))) in
    All-contains IsFound (entries vars) p (All-from_recursion IsFound (entries vars) each) among

-- and what is found is an entry
pub contained : (vars : Variables) (name value : List ℕ) → get vars name ≡ Some value → Contains (entries vars) (name, value)
contained vars name value is =
    let Among : List ℕ × List ℕ → Type 0 = Contains (entries vars) in
    subst (IsEach Among name) (sym (get-entries vars name) ∙ is)
    (found_each name_cmp-IsAntisymmetric Among (entries vars)
    (recursion_from_All Among (entries vars) (All-contains_itself (entries vars))) name)

-- sorted variables are a map of variables
pub IsVars-from_sorted : (pairs : List (List ℕ × List ℕ)) → T (is_sorted name_cmp pairs) → AllByRecursion IsVariable pairs → IsVars (from_sorted pairs)
IsVars-from_sorted pairs rising h q = subst (IsEach IsVariable q) (sym (get-from_sorted name_cmp pairs q rising))
    (found_each name_cmp-IsAntisymmetric IsVariable pairs h q)

-- variables as they are held, and the map that they are
module _ (variables : List (Named (List ℕ))) (held : AreVariables (pairs_of variables)) where
  pub entries-vars_of : entries (vars_of variables) ≡ pairs_of variables
  entries-vars_of = entries-from_sorted name_cmp (pairs_of variables) held.rising

  pub get-vars_of : (name : List ℕ) → get (vars_of variables) name ≡ find name_cmp name (pairs_of variables)
  get-vars_of name = get-from_sorted name_cmp (pairs_of variables) name held.rising

  pub len-vars_of : len (vars_of variables) ≡ length variables
  len-vars_of = len-entries (vars_of variables) ∙ ap length entries-vars_of ∙ length-map variables pair_of

  pub IsVars-vars_of : IsVars (vars_of variables)
  IsVars-vars_of = IsVars-from_sorted (pairs_of variables) held.rising held.each

pub vars_of_none : vars_of [] ≡ empty
vars_of_none = empty_of_len (vars_of []) (len-vars_of [] (record { rising = tt; each = tt }))

-- a value put among pairs whose names rise is one put into the map
pub from_sorted-put_any : {X : Type 0} (pairs : List (List ℕ × X)) → T (is_sorted name_cmp pairs) → (name : List ℕ) (value : X) →
    from_sorted (put name_cmp name value pairs) ≡ insert (from_sorted {R = name_cmp} pairs) name value
from_sorted-put_any pairs rising name value =
    same_entries_map _ _ (entries-from_sorted name_cmp _ (is_sorted-put name_cmp nat_list_cmp_total name value pairs rising)
    ∙ ap (put name_cmp name value) (sym (entries-from_sorted name_cmp pairs rising)) ∙ sym (entries-insert nat_list_cmp_total (from_sorted pairs) name value))

-- what a change of the pairs makes of the map
module _ (pairs : List (List ℕ × List ℕ)) (held : AreVariables pairs) (name : List ℕ) where
  pub AreVariables-put : (value : List ℕ) → IsVariable (name, value) → AreVariables (put name_cmp name value pairs)
  AreVariables-put value is = record {
    rising = is_sorted-put name_cmp nat_list_cmp_total name value pairs held.rising;
    each = put_each name_cmp-IsAntisymmetric IsVariable name value pairs is held.each;
  }

  pub AreVariables-without : AreVariables (without name pairs)
  AreVariables-without = record {
    rising = is_sorted-where_key name_cmp (λ other. not (eq_by_cmp name_cmp name other)) pairs held.rising;
    each = filter_each IsVariable _ pairs held.each;
  }

  pub from_sorted-put : (value : List ℕ) → from_sorted (put name_cmp name value pairs) ≡ insert (from_sorted {R = name_cmp} pairs) name value
  from_sorted-put value = from_sorted-put_any pairs held.rising name value

  pub from_sorted-without : from_sorted (without name pairs) ≡ remove (from_sorted {R = name_cmp} pairs) name
  from_sorted-without = same_map nat_list_cmp_total name_cmp-IsAntisymmetric _ _ (λ q.
      get-from_sorted name_cmp _ q AreVariables-without.rising
      ∙ find-where_key name_cmp (λ other. not (eq_by_cmp name_cmp name other)) q
      (λ x t. ap (λ r. not (is_eq r)) (sym (alike_right nat_list_cmp_total q x name t))) pairs
      ∙ flipped (eq_by_cmp name_cmp name q) _ _
      ∙ ap (λ b. cond b None (find name_cmp q pairs)) ((eq_by_cmp_equiv nat_list_cmp_total).symm name q)
      ∙ ap (cond (eq_by_cmp name_cmp q name) None) (sym (get-from_sorted name_cmp pairs q held.rising))
      ∙ sym (get-remove nat_list_cmp_total (from_sorted pairs) name q))
