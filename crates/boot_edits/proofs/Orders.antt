-- Orders that are made of one another number by number, and what is in them.
use Rattle.std.proofs.Common.{◌≡◌, ℕ, ◌+◌, ◌<◌, ◌≤◌, ◌==◌, ◌&&◌, ◌||◌, not, Bool, true, false, cond, List, [], ◌∷◌, ◌++◌, length, take, get_or}
use Rattle.std.proofs.Common.{refl, sym, ap, ◌∙◌, inl, inr, arith}
use Rattle.std.proofs.lemmas.Bool.{cases_eq, cases_Bool, cond-true, cond-false, eqb-true}
use Rattle.std.proofs.lemmas.List.{append-nil, length-append}
use Rattle.std.proofs.lemmas.List.Elements.{filter_more}
use Rattle.std.proofs.lemmas.List.Folds.{list_any-append}
use Rattle.std.proofs.lemmas.Map.Views.{any-filter_same}
use Rattle.boot_requests.specs.Apply.{is_in, repeats, without_all, in_front}
use Rattle.boot_edits.specs.Orders.{with_last, extended}
use Rattle.boot_requests.proofs.Variables.OrderLists.{repeats_none}

-- ---- what is in a list

pub is_in-push : (numbers : List ℕ) (number other : ℕ) → is_in (numbers ++ number ∷ []) other ≡ (is_in numbers other || (number == other))
is_in-push numbers number other = list_any-append (λ n. n == other) numbers (number ∷ []) ∙ ap (λ b. is_in numbers other || b) (or_none (number == other))
  where
    or_none : (b : Bool) → (b || false) ≡ b
    or_none true = refl
    or_none false = refl

-- what is left of an order
pub is_left : (numbers order : List ℕ) (number : ℕ) → is_in (without_all numbers order) number ≡ (not (is_in numbers number) && is_in order number)
is_left numbers order number =
    any-filter_same (λ other. other == number) (λ other. not (is_in numbers other)) (not (is_in numbers number))
    (λ other same. ap (λ n. not (is_in numbers n)) (eqb-true other number same)) order

pub in_front_has : (numbers order : List ℕ) (number : ℕ) → is_in (in_front numbers order) number ≡ (is_in numbers number || is_in order number)
in_front_has numbers order number =
    list_any-append (λ n. n == number) numbers (without_all numbers order)
    ∙ ap (λ b. is_in numbers number || b) (is_left numbers order number)
    ∙ either (is_in numbers number) (is_in order number)
  where
    either : (a b : Bool) → (a || (not a && b)) ≡ (a || b)
    either true b = refl
    either false b = refl

pub not_behind : (numbers order : List ℕ) (number : ℕ) → is_in numbers number ≡ true → is_in (without_all numbers order) number ≡ false
not_behind numbers order number there = is_left numbers order number ∙ ap (λ b. not b && is_in order number) there

-- one more number is left, or isn't
module _ (numbers order : List ℕ) (i : ℕ) (within : i < length order) where
  more_left : without_all numbers (take (i + 1) order) ≡ without_all numbers (take i order)
      ++ cond (not (is_in numbers (get_or order i 0))) (get_or order i 0 ∷ []) []
  more_left = filter_more (λ number. not (is_in numbers number)) order i 0 within

  pub left_more : is_in numbers (get_or order i 0) ≡ false →
      without_all numbers (take (i + 1) order) ≡ without_all numbers (take i order) ++ get_or order i 0 ∷ []
  left_more out = more_left ∙ ap (λ b. without_all numbers (take i order) ++ cond (not b) (get_or order i 0 ∷ []) []) out

  pub left_same : is_in numbers (get_or order i 0) ≡ true → without_all numbers (take (i + 1) order) ≡ without_all numbers (take i order)
  left_same listed = more_left ∙ ap (λ b. without_all numbers (take i order) ++ cond (not b) (get_or order i 0 ∷ []) []) listed ∙ append-nil _

-- ---- an order that is extended

pub with_last_has : (numbers : List ℕ) (number other : ℕ) → is_in (with_last numbers number) other ≡ (is_in numbers other || (number == other))
with_last_has numbers number other = elim (cases_Bool (is_in numbers number)) [
  | inl there ↦
      ap (λ (o : List ℕ). is_in o other) (cond-true _ _ _ there)
      ∙ elim (cases_eq number other) [
        | inl same ↦ kept (is_in numbers other) (number == other) (λ is. ap (is_in numbers) (sym same) ∙ there)
        | inr differ ↦ kept (is_in numbers other) (number == other) (λ is. absurd (differ (eqb-true number other is)))
      ]
  | inr new ↦ ap (λ (o : List ℕ). is_in o other) (cond-false _ _ _ new) ∙ is_in-push numbers number other
]
  where
    kept : (a m : Bool) → (m ≡ true → a ≡ true) → a ≡ (a || m)
    kept true m h = refl
    kept false true h = h refl
    kept false false h = refl

pub with_last_once : (numbers : List ℕ) (number : ℕ) → repeats numbers ≡ false → repeats (with_last numbers number) ≡ false
with_last_once numbers number once = elim (cases_Bool (is_in numbers number)) [
  | inl there ↦ ap repeats (cond-true _ _ _ there) ∙ once
  | inr new ↦ ap repeats (cond-false _ _ _ new) ∙ repeats_none numbers number once new
]

pub with_last_fits : (numbers : List ℕ) (number : ℕ) → length (with_last numbers number) ≤ length numbers + 1
with_last_fits numbers number = elim (is_in numbers number) as (λ b. length (cond b numbers (numbers ++ number ∷ [])) ≤ length numbers + 1) [
  | true ↦ omega arith
  | false ↦ omega (arith, length-append numbers (number ∷ []))
]

module _ (test : ℕ → Bool) where
  -- it isn't longer than both together
  pub extended_fits : (numbers order : List ℕ) → length (extended test numbers order) ≤ length numbers + length order
  extended_fits numbers [] = omega arith
  extended_fits numbers (first ∷ order) =
      elim (test first) as (λ b. length (extended test (cond b (with_last numbers first) numbers) order) ≤ length numbers + length (first ∷ order)) [
        | true ↦ omega (arith, with_last_fits numbers first, extended_fits (with_last numbers first) order)
        | false ↦ omega (arith, extended_fits numbers order)
      ]

  pub extended_has : (numbers order : List ℕ) (number : ℕ) →
      is_in (extended test numbers order) number ≡ (is_in numbers number || (test number && is_in order number))
  extended_has numbers [] number = sym (none (is_in numbers number) (test number))
    where
      none : (a b : Bool) → (a || (b && false)) ≡ a
      none true b = refl
      none false true = refl
      none false false = refl
  extended_has numbers (first ∷ order) number = elim (cases_Bool (test first)) [
    | inl passes ↦
        ap (λ (o : List ℕ). is_in (extended test o order) number) (cond-true _ _ _ passes)
        ∙ extended_has (with_last numbers first) order number
        ∙ ap (λ b. b || (test number && is_in order number)) (with_last_has numbers first number)
        ∙ elim (cases_eq first number) [
          | inl same ↦ taken (is_in numbers number) (first == number) (test number) (is_in order number) (λ is. ap test (sym same) ∙ passes)
          | inr differ ↦ taken (is_in numbers number) (first == number) (test number) (is_in order number) (λ is. absurd (differ (eqb-true first number is)))
        ]
    | inr fails ↦
        ap (λ (o : List ℕ). is_in (extended test o order) number) (cond-false _ _ _ fails)
        ∙ extended_has numbers order number
        ∙ elim (cases_eq first number) [
          | inl same ↦ passed (is_in numbers number) (first == number) (test number) (is_in order number) (λ is. ap test (sym same) ∙ fails)
          | inr differ ↦ passed (is_in numbers number) (first == number) (test number) (is_in order number) (λ is. absurd (differ (eqb-true first number is)))
        ]
  ]
    where
      taken : (a m t o : Bool) → (m ≡ true → t ≡ true) → ((a || m) || (t && o)) ≡ (a || (t && (m || o)))
      taken true m t o h = refl
      taken false true t o h = sym (ap (λ b. b && true) (h refl))
      taken false false t o h = refl

      passed : (a m t o : Bool) → (m ≡ true → t ≡ false) → (a || (t && o)) ≡ (a || (t && (m || o)))
      passed true m t o h = refl
      passed false true t o h = ap (λ b. b && o) (h refl) ∙ sym (ap (λ b. b && true) (h refl))
      passed false false t o h = refl

  pub extended_once : (numbers order : List ℕ) → repeats numbers ≡ false → repeats (extended test numbers order) ≡ false
  extended_once numbers [] once = once
  extended_once numbers (first ∷ order) once = elim (cases_Bool (test first)) [
    | inl passes ↦
        ap (λ (o : List ℕ). repeats (extended test o order)) (cond-true _ _ _ passes)
        ∙ extended_once (with_last numbers first) order (with_last_once numbers first once)
    | inr fails ↦ ap (λ (o : List ℕ). repeats (extended test o order)) (cond-false _ _ _ fails) ∙ extended_once numbers order once
  ]
