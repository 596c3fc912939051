-- Finite maps from numbers.
use Rattle.std.proofs.Common.{◌≡◌, ◌≢◌, ℕ, suc, leb, ltb, ◌<◌, ◌≤◌, Bool, true, false, cond, T, eqb, List, [], ◌∷◌, Option, Some, None, refl, sym, ap, subst}
use Rattle.std.proofs.Common.{◌∙◌, arith, inl, inr}
use Rattle.std.specs.Prelude.{◌&&◌, IfSome}
use Rattle.std.specs.List.{AllByRecursion}
use Rattle.std.specs.Ordering.{nat_cmp, eq_by_cmp, is_lt}
use Rattle.std.specs.Cmp.{nat_cmp_total}
use Rattle.std.specs.FinMap.{FinMap, empty, get, insert, retain_keys, entries, entries_sorted, get-empty, get-insert, get-retain_keys, get-entries, len-entries}
use Rattle.std.specs.FinMap.{len-empty, same_map, nat_cmp-IsAntisymmetric}
use Rattle.std.specs.FinMap.Entries.{find, is_sorted, below_all, same_entries}
use Rattle.std.proofs.lemmas.Bool.Decides.{nat_tests}
use Rattle.std.proofs.lemmas.Bool.{cases_lt}
use Rattle.uefi_vars.proofs.Maps.{T_parts, T_from_parts}
use Rattle.uefi_vars.proofs.NameChanges.{none_of}

-- two numbers tie if they are equal
pub tie_test : (a b : ℕ) → eq_by_cmp nat_cmp a b ≡ eqb a b
tie_test a b = grind (arith, nat_tests)

pub T_is : (b : Bool) → T b → b ≡ true
T_is true h = refl
T_is false h = absurd h

pub T_of : (b : Bool) → b ≡ true → T b
T_of b e = subst T (sym e) tt

below_of : (n k : ℕ) → T (is_lt (nat_cmp n k)) → n < k
below_of n k h = grind (arith, nat_tests, T_is _ h)

module _ {X : Type 0} where
  -- the numbers of these entries are above this one
  abbrev pub AreAbove : ℕ → List (ℕ × X) → Type 0
  AreAbove n es = AllByRecursion (λ e. n < e.0) es

  pub above_of : (n : ℕ) (es : List (ℕ × X)) → T (below_all nat_cmp n es) → AreAbove n es
  above_of n [] h = tt
  above_of n (e ∷ es) h = let parts = T_parts _ _ h in (below_of n e.0 parts.0, above_of n es parts.1)

  pub sorted_parts : (e : ℕ × X) (es : List (ℕ × X)) → T (is_sorted nat_cmp (e ∷ es)) → AreAbove e.0 es × T (is_sorted nat_cmp es)
  sorted_parts e es h = let parts = T_parts _ _ h in (above_of e.0 es parts.0, parts.1)

  -- what a map with a new entry has at a number
  pub get_inserted : (m : FinMap nat_cmp X) (k : ℕ) (v : X) (q : ℕ) → get (insert m k v) q ≡ cond (eqb q k) (Some v) (get m q)
  get_inserted m k v q = get-insert nat_cmp_total m k v q ∙ ap (λ b. cond b (Some v) (get m q)) (tie_test q k)

  -- what the entries whose numbers pass a test have at a number
  pub get_retained : (m : FinMap nat_cmp X) (p : ℕ → Bool) (q : ℕ) → get (retain_keys m p) q ≡ cond (p q) (get m q) None
  get_retained m p q = get-retain_keys m p q (λ x t. ap p (sym (nat_cmp-IsAntisymmetric q x t)))

  -- maps that have the same at each number are one
  pub same_numbers : (m n : FinMap nat_cmp X) → ((q : ℕ) → get m q ≡ get n q) → m ≡ n
  same_numbers m n h = same_map nat_cmp_total nat_cmp-IsAntisymmetric m n h

less_test : (n k : ℕ) → n < k → is_lt (nat_cmp n k) ≡ true
less_test n k l = grind (arith, nat_tests, l)

-- the numbers from one to below another
abbrev pub is_between : ℕ → ℕ → ℕ → Bool
is_between from to = λ q. leb from q && ltb q to

module _ {X : Type 0} where
  pub below_from : (n : ℕ) (es : List (ℕ × X)) → AreAbove n es → T (below_all nat_cmp n es)
  below_from n [] h = tt
  below_from n (e ∷ es) h = T_from_parts _ _ (T_of _ (less_test n e.0 h.0)) (below_from n es h.1)

  pub found_at : (q : ℕ) (e : ℕ × X) (es : List (ℕ × X)) → find nat_cmp q (e ∷ es) ≡ cond (eqb q e.0) (Some e.1) (find nat_cmp q es)
  found_at q e es = ap (λ b. cond b (Some e.1) (find nat_cmp q es)) (tie_test q e.0)

  pub found_behind : (q : ℕ) (e : ℕ × X) (es : List (ℕ × X)) → q ≢ e.0 → find nat_cmp q (e ∷ es) ≡ find nat_cmp q es
  found_behind q e es apart =
      let no : eqb q e.0 ≡ false = grind (arith, nat_tests, apart) in
      found_at q e es ∙ ap (λ b. cond b (Some e.1) (find nat_cmp q es)) no

  -- a number that is not above the others' least isn't found
  found_below : (n q : ℕ) (es : List (ℕ × X)) → AreAbove n es → q ≤ n → find nat_cmp q es ≡ None
  found_below n q [] h l = refl
  found_below n q (e ∷ es) h l = found_behind q e es (λ is. omega (arith, h.0)) ∙ found_below n q es h.1 l

  -- what holds of what is found under each number holds of each entry
  each_entry : (P : ℕ → X → Type 0) (es : List (ℕ × X)) → T (is_sorted nat_cmp es) → ((q : ℕ) → IfSome (find nat_cmp q es) (P q)) →
      AllByRecursion (λ e. P e.0 e.1) es
  each_entry P [] h each = tt
  each_entry P (e ∷ es) h each =
      let parts = sorted_parts e es h in
      let yes : eqb e.0 e.0 ≡ true = grind (arith, nat_tests) in
      let here : P e.0 e.1 =
      subst (λ (o : Option X). IfSome o (P e.0)) (found_at e.0 e es ∙ ap (λ b. cond b (Some e.1) (find nat_cmp e.0 es)) yes) (each e.0) in
      (here, each_entry P es parts.1 (λ q. rest q parts.0))
    where
      rest : (q : ℕ) → AreAbove e.0 es → IfSome (find nat_cmp q es) (P q)
      rest q above = elim (cases_lt e.0 q) [
        | inl l ↦ subst (λ (o : Option X). IfSome o (P q)) (found_behind q e es (λ is. omega arith)) (each q)
        | inr l ↦ subst (λ (o : Option X). IfSome o (P q)) (sym (found_below e.0 q es above l)) tt
      ]

  pub get_between : (m : FinMap nat_cmp X) (from to q : ℕ) → get (retain_keys m (is_between from to)) q ≡ cond (is_between from to q) (get m q) None
  get_between m from to q = get_retained m (is_between from to) q

  between_rest : (m : FinMap nat_cmp X) (from to : ℕ) → AreAbove from (entries (retain_keys m (is_between (suc from) to)))
  between_rest m from to =
      let rest = retain_keys m (is_between (suc from) to) in
      each_entry (λ q _. from < q) (entries rest) (entries_sorted rest) (λ q.
      subst (λ (o : Option X). IfSome o (λ _. from < q)) (sym (sym (get-entries rest q) ∙ get_between m (suc from) to q)) (above q))
    where
      above : (q : ℕ) → IfSome (cond (is_between (suc from) to q) (get m q) None) (λ _. from < q)
      above q = elim (is_between (suc from) to q) as (λ b. is_between (suc from) to q ≡ b → IfSome (cond b (get m q) None) (λ _. from < q)) [
        | true ↦ λ t. let l : from < q = grind (arith, nat_tests, t) in elim (get m q) as (λ o. IfSome o (λ _. from < q)) [ Some v ↦ l | None ↦ tt ]
        | false ↦ λ t. tt
      ] refl

  -- what holds of what a map has under each number holds of its entries between two numbers
  pub each_between : (P : ℕ → X → Type 0) (m : FinMap nat_cmp X) (from to : ℕ) → ((q : ℕ) → IfSome (get m q) (P q)) →
      AllByRecursion (λ e. P e.0 e.1) (entries (retain_keys m (is_between from to)))
  each_between P m from to each =
      let some = retain_keys m (is_between from to) in
      each_entry P (entries some) (entries_sorted some)
      (λ q. subst (λ (o : Option X). IfSome o (P q)) (sym (sym (get-entries some q) ∙ get_between m from to q)) (within q))
    where
      within : (q : ℕ) → IfSome (cond (is_between from to q) (get m q) None) (P q)
      within q = elim (is_between from to q) as (λ b. IfSome (cond b (get m q) None) (P q)) [ true ↦ each q | false ↦ tt ]

  -- the first of the entries between two numbers, and the others
  pub between_first : (m : FinMap nat_cmp X) (from to : ℕ) (v : X) → get m from ≡ Some v → from < to →
      entries (retain_keys m (is_between from to)) ≡ (from, v) ∷ entries (retain_keys m (is_between (suc from) to))
  between_first m from to v held l =
      let all = retain_keys m (is_between from to) in
      let rest = retain_keys m (is_between (suc from) to) in
      same_entries nat_cmp nat_cmp_total nat_cmp-IsAntisymmetric (entries all) ((from, v) ∷ entries rest) (entries_sorted all)
      (T_from_parts _ _ (below_from from (entries rest) (between_rest m from to)) (entries_sorted rest)) (λ q.
      sym (get-entries all q) ∙ get_between m from to q ∙ same q ∙ ap (cond (eqb q from) (Some v)) (sym (get_between m (suc from) to q) ∙ get-entries rest q)
      ∙ sym (found_at q (from, v) (entries rest)))
    where
      same : (q : ℕ) → cond (is_between from to q) (get m q) None ≡ cond (eqb q from) (Some v) (cond (is_between (suc from) to q) (get m q) None)
      same q =
          elim (eqb q from) as (λ b.
          eqb q from ≡ b → cond (is_between from to q) (get m q) None ≡ cond b (Some v) (cond (is_between (suc from) to q) (get m q) None)) [
            | true ↦ λ t.
                let is : q ≡ from = grind (arith, nat_tests, t) in
                let in_range : is_between from to q ≡ true = grind (arith, nat_tests, l, is) in
                ap (λ b. cond b (get m q) None) in_range ∙ ap (get m) is ∙ held
            | false ↦ λ t.
                let same_range : is_between from to q ≡ is_between (suc from) to q = grind (arith, nat_tests, t) in
                ap (λ b. cond b (get m q) None) same_range
          ] refl

  -- between a number and one that isn't greater there is none
  pub between_none : (m : FinMap nat_cmp X) (from to : ℕ) → to ≤ from → retain_keys m (is_between from to) ≡ empty
  between_none m from to l = same_numbers _ _ (λ q.
      let out : is_between from to q ≡ false = grind (arith, nat_tests, l) in
      get_between m from to q ∙ ap (λ b. cond b (get m q) None) out ∙ sym (get-empty nat_cmp q))

  pub entries_of_empty : entries (empty {X = X} {R = nat_cmp}) ≡ []
  entries_of_empty = none_of (entries (empty {X = X} {R = nat_cmp})) (sym (len-entries (empty {X = X} {R = nat_cmp})) ∙ len-empty nat_cmp X)
