-- The numbers of BootOrder as bytes, two for each.
use Rattle.std.proofs.Common.{◌≡◌, ◌≢◌, ◌⊎◌, ℕ, ◌*◌, ◌/◌, ◌%◌, ◌<◌, ◌≤◌, List, [], ◌∷◌, length, Option, Some, None, IfSome, ◌↔◌, inl, inr}
use Rattle.std.proofs.Common.{refl, sym, ap, ◌∙◌, ⊎_elim, arith}
use Rattle.std.specs.List.{AllByRecursion}
use Rattle.std.specs.Option.{IsSomeAnd}
use Rattle.std.specs.FinMap.{get}
use Rattle.std.proofs.lemmas.Bool.{cases_eq, cases_lt}
use Rattle.uefi_path.specs.Row.{IsByte}
use Rattle.uefi_path.specs.Units.{IsTwoByte, units_bytes, units_of}
use Rattle.uefi_vars.specs.Name.{order_text}
use Rattle.uefi_vars.specs.Vars.{Variables, IsData, IsVariable, IsVars}
use Rattle.uefi_vars.specs.Order.{order_max, IsEntryNumber, stored_order, HasOrder, HasBadOrder}

-- ---- what the laws of numbers of two bytes say

abbrev pub AreReadAgain : Type 0
AreReadAgain = (units : List ℕ) → AllByRecursion IsTwoByte units → units_of (units_bytes units) ≡ units

abbrev pub AreWrittenAgain : Type 0
AreWrittenAgain = (bytes : List ℕ) → AllByRecursion IsByte bytes → length bytes % 2 ≡ 0 → units_bytes (units_of bytes) ≡ bytes

abbrev pub HaveTwoBytes : Type 0
HaveTwoBytes = (units : List ℕ) → AllByRecursion IsByte (units_bytes units) × (length (units_bytes units) ≡ 2 * length units)

abbrev pub AreTwoBytes : Type 0
AreTwoBytes = (bytes : List ℕ) → AllByRecursion IsByte bytes → AllByRecursion IsTwoByte (units_of bytes) × (length (units_of bytes) ≡ length bytes / 2)

-- ---- one order

module _ (again : AreReadAgain) where
  same_order : (a b : List ℕ) → AllByRecursion IsEntryNumber a → AllByRecursion IsEntryNumber b → stored_order a ≡ stored_order b → a ≡ b
  same_order [] [] p q e = refl
  same_order [] (n ∷ b) p q e = cc
  same_order (m ∷ a) [] p q e = cc
  same_order (m ∷ a) (n ∷ b) p q e =
      let bytes : units_bytes (m ∷ a) ≡ units_bytes (n ∷ b) = cc in
      sym (again (m ∷ a) p) ∙ ap units_of bytes ∙ again (n ∷ b) q

  pub one_order : (vars : Variables) (a b : List ℕ) → HasOrder vars a → HasOrder vars b → a ≡ b
  one_order vars a b h k = same_order a b h.is.numbers k.is.numbers (sym h.stored ∙ k.stored)

-- variables with the same under the name have the same order
pub HasOrder-along : (vars others : Variables) → get vars order_text ≡ get others order_text → (order : List ℕ) → HasOrder vars order ↔ HasOrder others order
HasOrder-along vars others e order = (λ h. record { is = h.is; stored = sym e ∙ h.stored }, λ h. record { is = h.is; stored = e ∙ h.stored })

-- ---- an order or a bad one

-- such bytes aren't an order
abbrev AreBad : List ℕ → Type 0
AreBad bytes = (length bytes % 2 ≢ 0) ⊎ (2 * order_max < length bytes)

-- what is stored of an order isn't a bad order
not_bad : HaveTwoBytes → (order : List ℕ) → length order ≤ order_max → IsSomeAnd (stored_order order) AreBad → ⊥
not_bad two [] len bad = bad
not_bad two (n ∷ order) len bad =
    let twice = (two (n ∷ order)).1 in
    ⊎_elim (λ odd. odd (omega (arith, twice))) (λ long. omega (arith, twice, long, len)) bad

pub order_is_not_bad : HaveTwoBytes → (vars : Variables) (order : List ℕ) → HasOrder vars order → HasBadOrder vars → ⊥
order_is_not_bad two vars order h bad = not_bad two order h.is.len (rw h.stored at bad)

-- an empty order isn't stored
pub no_order : (vars : Variables) → get vars order_text ≡ None → HasOrder vars []
no_order vars e = record { is = record { numbers = tt; len = omega arith }; stored = e }

module _ (again : AreWrittenAgain) (two : AreTwoBytes) where
  stored_again : (bytes : List ℕ) → IsData bytes → length bytes % 2 ≡ 0 → stored_order (units_of bytes) ≡ Some bytes
  stored_again [] valid even = absurd (valid.some refl)
  stored_again (low ∷ []) valid even = absurd (omega arith)
  stored_again (low ∷ high ∷ rest) valid even = ap (λ (t : List ℕ). Some t) (again (low ∷ high ∷ rest) valid.bytes even)

  pub order_found : (vars : Variables) (bytes : List ℕ) → get vars order_text ≡ Some bytes → IsData bytes →
      length bytes % 2 ≡ 0 → length bytes ≤ 2 * order_max → HasOrder vars (units_of bytes)
  order_found vars bytes e valid even len =
      let numbers = two bytes valid.bytes in
      record { is = record { numbers = numbers.0; len = omega (arith, numbers.1, len) }; stored = e ∙ sym (stored_again bytes valid even) }

  good_or_bad : (bytes : List ℕ) → ((length bytes % 2 ≡ 0) × (length bytes ≤ 2 * order_max)) ⊎ AreBad bytes
  good_or_bad bytes =
      ⊎_elim (λ even. ⊎_elim (λ long. inr (inr long)) (λ short. inl (even, short)) (cases_lt (2 * order_max) (length bytes)))
      (λ odd. inr (inl odd)) (cases_eq (length bytes % 2) 0)

  stored_or_bad : (vars : Variables) (stored : Option (List ℕ)) → get vars order_text ≡ stored →
      IfSome stored (λ value. IsVariable (order_text, value)) → ((order : List ℕ) × HasOrder vars order) ⊎ IsSomeAnd stored AreBad
  stored_or_bad vars None is valid = inl ([], no_order vars is)
  stored_or_bad vars (Some bytes) is valid =
      ⊎_elim (λ good. inl (units_of bytes, order_found vars bytes is valid.1 good.0 good.1)) (λ bad. inr bad) (good_or_bad bytes)

  pub order_or_bad : (vars : Variables) → IsVars vars → ((order : List ℕ) × HasOrder vars order) ⊎ HasBadOrder vars
  order_or_bad vars valid = stored_or_bad vars (get vars order_text) refl (valid order_text)
