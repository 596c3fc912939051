-- Lists of numbers, one number after the other: whether one is there, and whether one is there twice.
use Rattle.std.proofs.Common.{◌≡◌, ◌≢◌, ℕ, ltb, ◌+◌, ◌<◌, ◌≤◌, ◌==◌, not, suc, Bool, true, false, cond, List, [], ◌∷◌, ◌++◌, length, take}
use Rattle.std.proofs.Common.{drop, get_or, refl, sym}
use Rattle.std.proofs.Common.{ap, subst, ◌∙◌, ⊎_elim, arith, inl, inr}
use Rattle.std.proofs.Math.ListN.{set}
use Rattle.std.proofs.Math.Seq.{drop-cons}
use Rattle.std.proofs.lemmas.List.{take_more, take-append-drop, get_or-set_same, get_or-set_other, get_or_default}
use Rattle.std.proofs.lemmas.Bool.{cases_eq, cond-true, cond-false, lt-ltb, le-ltb, false≢true, eqb-true, eqb-false, eq-eqb, ne_eqb, or_cases, or_parts}
use Rattle.std.proofs.lemmas.Bool.{or_from, or_left, or_right}
use Rattle.std.proofs.lemmas.Bool.Decides.{nat_tests}
use Rattle.uefi_vars.specs.Order.{order_max}
use Rattle.uefi_path.specs.Units.{units_bytes}
use Rattle.uefi_vars.proofs.Numbers.{HaveTwoBytes}
use Rattle.boot_requests.specs.declared.request.Request.{Request}
use Rattle.boot_requests.specs.declared.request.Request.TheVariants.{Order}
use Rattle.boot_requests.specs.Limits.{payload_max}
use Rattle.boot_requests.specs.Request.{payload_of}
use Rattle.boot_requests.specs.Apply.{is_in, repeats, order_with, order_from, without_all, without, has_room, in_front}

pub stands_there : (before : List ℕ) (number : ℕ) (rest : List ℕ) → is_in (before ++ number ∷ rest) number ≡ true
stands_there [] number rest = or_left _ _ (eq-eqb number number refl)
stands_there (other ∷ before) number rest = or_right _ _ (stands_there before number rest)

pub not_there : (before : List ℕ) (number other : ℕ) → is_in before other ≡ false → number ≢ other → is_in (before ++ number ∷ []) other ≡ false
not_there [] number other h differ = or_from _ _ (ne_eqb number other differ) refl
not_there (first ∷ before) number other h differ =
    let parts = or_parts (first == other) (is_in before other) h in or_from _ _ parts.0 (not_there before number other parts.1 differ)

pub still_there : (before : List ℕ) (number other : ℕ) → is_in before other ≡ true → is_in (before ++ number ∷ []) other ≡ true
still_there [] number other h = absurd (false≢true h)
still_there (first ∷ before) number other h =
    ⊎_elim (λ here. or_left _ _ here) (λ later. or_right _ _ (still_there before number other later)) (or_cases (first == other) (is_in before other) h)

-- a number that isn't the last one is there as before
pub as_before : (before : List ℕ) (number other : ℕ) → number ≢ other → is_in (before ++ number ∷ []) other ≡ is_in before other
as_before before number other differ =
    elim (is_in before other) as (λ b. is_in before other ≡ b → is_in (before ++ number ∷ []) other ≡ b) [
      | true ↦ λ e. still_there before number other e
      | false ↦ λ e. not_there before number other e differ
    ] refl

pub repeats_found : (before : List ℕ) (number : ℕ) (rest : List ℕ) → is_in before number ≡ true → repeats (before ++ number ∷ rest) ≡ true
repeats_found [] number rest h = absurd (false≢true h)
repeats_found (first ∷ before) number rest h =
    ⊎_elim (λ here.
    or_left _ _ (subst (λ (k : ℕ). is_in (before ++ number ∷ rest) k ≡ true) (sym (eqb-true first number here)) (stands_there before number rest)))
    (λ later. or_right _ _ (repeats_found before number rest later)) (or_cases (first == number) (is_in before number) h)

pub repeats_none : (before : List ℕ) (number : ℕ) → repeats before ≡ false → is_in before number ≡ false → repeats (before ++ number ∷ []) ≡ false
repeats_none [] number none new = refl
repeats_none (first ∷ before) number none new =
    let old = or_parts (is_in before first) (repeats before) none in
    let apart = or_parts (first == number) (is_in before number) new in
    or_from _ _ (not_there before number first old.0 (λ e. eqb-false first number apart.0 (sym e))) (repeats_none before number old.1 apart.1)

-- an order without some numbers isn't longer
pub left_fits : (numbers order : List ℕ) → length (without_all numbers order) ≤ length order
left_fits numbers [] = omega arith
left_fits numbers (number ∷ order) =
    elim (is_in numbers number) as (λ b. length (cond (not b) (number ∷ without_all numbers order) (without_all numbers order)) ≤ length (number ∷ order)) [
      | true ↦ omega (arith, left_fits numbers order)
      | false ↦ omega (arith, left_fits numbers order)
    ]

-- and is shorter if one of them was there
pub left_shorter : (order : List ℕ) (number : ℕ) → is_in order number ≡ true → length (without order number) < length order
left_shorter [] number there = absurd (false≢true there)
left_shorter (first ∷ order) number there =
    elim (is_in (number ∷ []) first) as (λ b.
    is_in (number ∷ []) first ≡ b → length (cond (not b) (first ∷ without order number) (without order number)) < length (first ∷ order)) [
      | true ↦ λ e. omega (arith, left_fits (number ∷ []) order)
      | false ↦ λ e. omega (arith, left_shorter order number (behind e))
    ] refl
  where
    behind : is_in (number ∷ []) first ≡ false → is_in order number ≡ true
    behind e =
        ⊎_elim (λ here. absurd (eqb-false number first (or_parts (number == first) false e).0 (sym (eqb-true first number here)))) (λ later. later)
        (or_cases (first == number) (is_in order number) there)

pub without_absent : (numbers : List ℕ) (number : ℕ) → is_in numbers number ≡ false → without numbers number ≡ numbers
without_absent [] number none = refl
without_absent (first ∷ numbers) number none =
    let parts = or_parts (first == number) (is_in numbers number) none in
    let apart : is_in (number ∷ []) first ≡ false = or_from _ _ (ne_eqb number first (λ e. eqb-false first number parts.0 (sym e))) refl in
    cond-true _ _ _ (ap not apart) ∙ ap (λ (others : List ℕ). first ∷ others) (without_absent numbers number parts.1)

pub order_with_there : (order : List ℕ) (number : ℕ) → is_in order number ≡ true → order_with order number ≡ order
order_with_there order number h = cond-true _ _ _ h

pub order_with_full : (order : List ℕ) (number : ℕ) → is_in order number ≡ false → order_max ≤ length order → order_with order number ≡ order
order_with_full order number h full = cond-false _ _ _ h ∙ cond-false _ _ _ (le-ltb (length order) order_max full)

pub order_with_last : (order : List ℕ) (number : ℕ) → is_in order number ≡ false → length order < order_max → order_with order number ≡ order ++ number ∷ []
order_with_last order number h room = cond-false _ _ _ h ∙ cond-true _ _ _ (lt-ltb (length order) order_max room)

pub order_from_room : (order : List ℕ) (number : ℕ) → has_room order number ≡ true → order_from order number ≡ in_front (number ∷ []) order
order_from_room order number room = cond-true _ _ _ room

pub order_from_full : (order : List ℕ) (number : ℕ) → has_room order number ≡ false → order_from order number ≡ order
order_from_full order number full = cond-false _ _ _ full

-- what was put in front is an order if there is room for it
pub front_fits : (order : List ℕ) (number : ℕ) → has_room order number ≡ true → length order ≤ order_max →
    length (in_front (number ∷ []) order) ≤ order_max
front_fits order number room most =
    ⊎_elim (λ fewer. let less : length order < order_max = grind (arith, nat_tests, fewer) in omega (arith, left_fits (number ∷ []) order))
    (λ there. omega (arith, left_shorter order number there)) (or_cases (ltb (length order) order_max) (is_in order number) room)

-- ---- numbers that are marked one after the other

parts : (numbers : List ℕ) (i : ℕ) → i < length numbers → take i numbers ++ get_or numbers i 0 ∷ drop (suc i) numbers ≡ numbers
parts numbers i within = ap (λ (t : List ℕ). take i numbers ++ t) (sym (drop-cons numbers i 0 within)) ∙ take-append-drop i numbers

module _ (numbers : List ℕ) (i : ℕ) (within : i < length numbers) where
  pub twice : is_in (take i numbers) (get_or numbers i 0) ≡ true → repeats numbers ≡ true
  twice found = rw (parts numbers i within) at (repeats_found (take i numbers) (get_or numbers i 0) (drop (suc i) numbers) found)

  pub once_more : repeats (take i numbers) ≡ false → is_in (take i numbers) (get_or numbers i 0) ≡ false → repeats (take (i + 1) numbers) ≡ false
  once_more none new = ap repeats (take_more numbers i 0 within) ∙ repeats_none (take i numbers) (get_or numbers i 0) none new

  pub marks_more : (marked : List Bool) → length marked ≡ 65536 → get_or numbers i 0 < 65536 →
      ((k : ℕ) → k < 65536 → get_or marked k false ≡ is_in (take i numbers) k) → (k : ℕ) → k < 65536 →
      get_or (set marked (get_or numbers i 0) true) k false ≡ is_in (take (i + 1) numbers) k
  marks_more marked len fits before k h =
      let number = get_or numbers i 0 in
      elim (cases_eq number k) [
        | inl same ↦ rw (← same)
            (get_or-set_same marked number true false (omega (arith, len, fits))
            ∙ sym (ap (λ (xs : List ℕ). is_in xs number) (take_more numbers i 0 within) ∙ stands_there (take i numbers) number []))
        | inr differ ↦ get_or-set_other marked number k true false (λ e. differ (sym e)) ∙ before k h
            ∙ sym (ap (λ (xs : List ℕ). is_in xs k) (take_more numbers i 0 within) ∙ as_before (take i numbers) number k differ)
      ]

  -- what is read of the marks at a number is whether it was there before
  pub was_there : (marked : List Bool) → length marked ≡ 65536 → ((k : ℕ) → k < 65536 → get_or marked k false ≡ is_in (take i numbers) k) →
      (place : ℕ) (read : Bool) → place < 65536 → place ≡ get_or numbers i 0 → read ≡ get_or marked place read →
      read ≡ is_in (take i numbers) (get_or numbers i 0)
  was_there marked len before place read fits is e =
      subst (λ (k : ℕ). read ≡ is_in (take i numbers) k) is (e ∙ get_or_default marked place read false (omega (arith, len, fits)) ∙ before place fits)

-- ---- a payload's numbers

pub order_fits : HaveTwoBytes → (r : Request) (numbers : List ℕ) → r ≡ Order numbers → length (payload_of r) ≤ payload_max → length numbers ≤ order_max
order_fits two r numbers is fits =
    let few : length (units_bytes numbers) ≤ payload_max = subst (λ (q : Request). length (payload_of q) ≤ payload_max) is fits in
    omega (arith, few, (two numbers).1)
