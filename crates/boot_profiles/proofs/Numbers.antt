-- Lists of numbers.
use Rattle.std.proofs.Common.{◌≡◌, ℕ, zero, suc, ◌<◌, ◌==◌, not, if◌then◌else◌, Bool, true, false, List, [], ◌∷◌, ◌++◌, length, get_or, Contains, refl, sym, ap, subst, ◌∙◌, arith}
use Rattle.std.specs.List.{AllByRecursion}
use Rattle.std.proofs.lemmas.Bool.{or_left, or_right, eq-eqb, eqb-true, cond-true, cond-false}
use Rattle.std.proofs.lemmas.List.Elements.{filter-append}
use Rattle.std.proofs.lemmas.Map.Views.{Contains-from_any}
use Rattle.uefi_option.proofs.Bytes.{AllByRecursion-append}
use Rattle.boot_requests.specs.Apply.{is_in, without_all, in_front}

-- ---- what is in a list

pub contained_in : (numbers : List ℕ) (number : ℕ) → is_in numbers number ≡ true → Contains numbers number
contained_in numbers number there = Contains-from_any {eq = λ (a : ℕ) (b : ℕ). b == a} (λ x y e. sym (eqb-true y x e)) number numbers there

pub nothing_in : (number : ℕ) → Contains [] number → ⊥
nothing_in number c = omega (arith, c.1)

at_in : (numbers : List ℕ) (place d : ℕ) → place < length numbers → is_in numbers (get_or numbers place d) ≡ true
at_in [] place d within = absurd (omega (arith, within))
at_in (n ∷ numbers) zero d within = or_left (n == n) (is_in numbers n) (eq-eqb n n refl)
at_in (n ∷ numbers) (suc place) d within =
    or_right (n == get_or numbers place d) (is_in numbers (get_or numbers place d)) (at_in numbers place d (omega (arith, within)))

pub is_in_contained : (numbers : List ℕ) (number : ℕ) → Contains numbers number → is_in numbers number ≡ true
is_in_contained numbers number c = subst (λ (n : ℕ). is_in numbers n ≡ true) c.2 (at_in numbers c.0 number c.1)

-- ---- what is left of an order

-- nothing, if all is taken out
none_left : (numbers order : List ℕ) → ((number : ℕ) → is_in order number ≡ true → is_in numbers number ≡ true) → without_all numbers order ≡ []
none_left numbers [] all = refl
none_left numbers (n ∷ order) all =
    cond-false _ _ _ (ap not (all n (or_left (n == n) (is_in order n) (eq-eqb n n refl))))
    ∙ none_left numbers order (λ other there. all other (or_right (n == other) (is_in order other) there))

-- taken out again, the same is left
left_again : (numbers order : List ℕ) → without_all numbers (without_all numbers order) ≡ without_all numbers order
left_again numbers [] = refl
left_again numbers (n ∷ order) = by (not (is_in numbers n)) refl (left_again numbers order)
  where
    by : (b : Bool) → not (is_in numbers n) ≡ b → without_all numbers (without_all numbers order) ≡ without_all numbers order →
        without_all numbers (if b then n ∷ without_all numbers order else without_all numbers order)
        ≡ (if b then n ∷ without_all numbers order else without_all numbers order)
    by true e rest = cond-true _ _ _ e ∙ ap (λ (o : List ℕ). n ∷ o) rest
    by false e rest = rest

-- what is put in front again is there
pub front_again : (numbers order : List ℕ) → in_front numbers (in_front numbers order) ≡ in_front numbers order
front_again numbers order =
    ap (λ (o : List ℕ). numbers ++ o)
    (filter-append (λ number. not (is_in numbers number)) numbers (without_all numbers order)
    ∙ ap (λ (o : List ℕ). o ++ without_all numbers (without_all numbers order)) (none_left numbers numbers (λ n there. there))
    ∙ left_again numbers order)

-- what is true of each number of an order is true of what is left
all_left : (P : ℕ → Type 0) (numbers order : List ℕ) → AllByRecursion P order → AllByRecursion P (without_all numbers order)
all_left P numbers [] all = all
all_left P numbers (n ∷ order) all = by (not (is_in numbers n)) all.0 (all_left P numbers order all.1)
  where
    by : (b : Bool) → P n → AllByRecursion P (without_all numbers order) →
        AllByRecursion P (if b then n ∷ without_all numbers order else without_all numbers order)
    by true here rest = (here, rest)
    by false here rest = rest

pub all_front : (P : ℕ → Type 0) (numbers order : List ℕ) → AllByRecursion P numbers → AllByRecursion P order → AllByRecursion P (in_front numbers order)
all_front P numbers order a b = AllByRecursion-append P numbers (without_all numbers order) a (all_left P numbers order b)
