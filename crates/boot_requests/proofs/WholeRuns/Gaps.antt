-- The least number from the first one on that a map lacks.
use Rattle.std.proofs.Common.{◌≡◌, ◌≢◌, ℕ, ◌+◌, ◌<◌, ◌≤◌, true, false, cond, T, eqb, List, [], ◌∷◌, map, Some, None, refl, sym, ap, ◌∙◌, arith, inl, inr}
use Rattle.std.specs.Prelude.{is_some}
use Rattle.std.specs.Ordering.{nat_cmp}
use Rattle.std.specs.FinMap.{FinMap, get, contains_key, entries, entries_sorted, keys, get-entries}
use Rattle.std.specs.FinMap.Entries.{find, is_sorted}
use Rattle.std.proofs.lemmas.Bool.Decides.{nat_tests}
use Rattle.std.proofs.lemmas.Bool.{cases_Bool}
use Rattle.boot_requests.specs.Window.{gap_from}
use Rattle.boot_requests.proofs.WholeRuns.Numbers.{AreAbove, sorted_parts, found_at, found_behind}

gap_rises : (gap : ℕ) (ks : List ℕ) → gap ≤ gap_from gap ks
gap_rises gap [] = omega arith
gap_rises gap (k ∷ ks) =
    elim (eqb k gap) as (λ b. gap ≤ gap_from (cond b (gap + 1) gap) ks) [
      | true ↦ let more : gap + 1 ≤ gap_from (gap + 1) ks = gap_rises (gap + 1) ks in omega arith
      | false ↦ gap_rises gap ks
    ]

module _ {X : Type 0} where
  -- the numbers of entries
  abbrev numbers : List (ℕ × X) → List ℕ
  numbers es = map (λ e. e.0) es

  -- numbers above the gap leave it where it is
  gap_stays : (gap : ℕ) (es : List (ℕ × X)) → AreAbove gap es → gap_from gap (numbers es) ≡ gap
  gap_stays gap [] h = refl
  gap_stays gap (e ∷ es) h =
      let apart : eqb e.0 gap ≡ false = grind (arith, nat_tests, h.0) in
      ap (λ b. gap_from (cond b (gap + 1) gap) (numbers es)) apart ∙ gap_stays gap es h.1

  above_less : (a b : ℕ) (es : List (ℕ × X)) → a ≤ b → AreAbove b es → AreAbove a es
  above_less a b [] l h = tt
  above_less a b (e ∷ es) l h = (omega (arith, h.0), above_less a b es l h.1)

  -- the gap isn't among the numbers
  gap_free : (gap : ℕ) (es : List (ℕ × X)) → T (is_sorted nat_cmp es) → find nat_cmp (gap_from gap (numbers es)) es ≡ None
  gap_free gap [] h = refl
  gap_free gap (e ∷ es) h =
      let parts = sorted_parts e es h in
      elim (eqb e.0 gap) as (λ b. eqb e.0 gap ≡ b → find nat_cmp (gap_from (cond b (gap + 1) gap) (numbers es)) (e ∷ es) ≡ None) [
        | true ↦ λ t.
            let more : gap + 1 ≤ gap_from (gap + 1) (numbers es) = gap_rises (gap + 1) (numbers es) in
            let at : e.0 ≡ gap = grind (arith, nat_tests, t) in
            found_behind _ e es (λ is. omega arith) ∙ gap_free (gap + 1) es parts.1
        | false ↦ λ t.
            let off : e.0 ≢ gap = λ is. grind (arith, nat_tests, t, is) in
            let more : gap ≤ gap_from gap (numbers es) = gap_rises gap (numbers es) in
            found_behind _ e es (λ is.
            let above : AreAbove gap es = above_less gap e.0 es (omega arith) parts.0 in
            off (sym is ∙ gap_stays gap es above)) ∙ gap_free gap es parts.1
      ] refl

  -- each number from the first one to the gap is among them
  gap_filled : (gap : ℕ) (es : List (ℕ × X)) → T (is_sorted nat_cmp es) → (q : ℕ) → gap ≤ q → q < gap_from gap (numbers es) → is_some (find nat_cmp q es) ≡ true
  gap_filled gap [] h q from below = absurd (omega arith)
  gap_filled gap (e ∷ es) h q from below =
      let parts = sorted_parts e es h in
      elim (cases_Bool (eqb q e.0)) [
        | inl t ↦ ap is_some (found_at q e es ∙ ap (λ b. cond b (Some e.1) (find nat_cmp q es)) t)
        | inr t ↦
            let off : q ≢ e.0 = λ is. grind (arith, nat_tests, t, is) in
            ap is_some (found_behind q e es off)
            ∙ elim (eqb e.0 gap) as (λ b. eqb e.0 gap ≡ b → q < gap_from (cond b (gap + 1) gap) (numbers es) → is_some (find nat_cmp q es) ≡ true) [
              | true ↦ λ at less. let is : e.0 ≡ gap = grind (arith, nat_tests, at) in gap_filled (gap + 1) es parts.1 q (omega arith) less
              | false ↦ λ at less. gap_filled gap es parts.1 q from less
            ] refl below
      ]

  -- this is the least number from the first one on that the map lacks
  pub record IsGap (first : ℕ) (m : FinMap nat_cmp X) (gap : ℕ) : Type 0 where
    pub from : first ≤ gap
    pub filled : (q : ℕ) → first ≤ q → q < gap → contains_key m q ≡ true
    pub free : get m gap ≡ None

  pub gap_is : (first : ℕ) (m : FinMap nat_cmp X) → IsGap first m (gap_from first (keys m))
  gap_is first m = record {
    from = gap_rises first (keys m);
    filled = λ q from below. ap is_some (get-entries m q) ∙ gap_filled first (entries m) (entries_sorted m) q from below;
    free = get-entries m _ ∙ gap_free first (entries m) (entries_sorted m);
  }

  apart_of : (first : ℕ) (m : FinMap nat_cmp X) (g h : ℕ) → IsGap first m g → IsGap first m h → g < h → ⊥
  apart_of first m g h a b less =
      let held : contains_key m g ≡ true = b.filled g a.from less in
      let none : contains_key m g ≡ false = ap is_some a.free in
      let clash : true ≡ false = sym held ∙ none in
      cc

  -- there is one
  pub gap_one : (first : ℕ) (m : FinMap nat_cmp X) (g h : ℕ) → IsGap first m g → IsGap first m h → g ≡ h
  gap_one first m g h a b = grind (arith, apart_of first m g h a b, apart_of first m h g b a)
