-- The number in BootNext as two bytes.
use Rattle.std.proofs.Common.{◌≡◌, ◌≢◌, ◌⊎◌, ℕ, List, [], ◌∷◌, length, Option, Some, None, IfSome, ◌↔◌, inl, inr, refl, sym, ap, ◌∙◌, ⊎_elim, arith}
use Rattle.std.specs.Int.{w16, from_le_bytes, to_le_bytes}
use Rattle.std.specs.List.{AllByRecursion}
use Rattle.std.specs.Option.{IsSomeAnd}
use Rattle.std.specs.FinMap.{get}
use Rattle.std.proofs.lemmas.Nat.{from_le_bytes-to_le_bytes_2}
use Rattle.uefi_path.specs.Row.{IsByte}
use Rattle.uefi_vars.specs.Name.{next_text}
use Rattle.uefi_vars.specs.Vars.{Variables, IsVariable, IsVars}
use Rattle.uefi_vars.specs.Order.{IsEntryNumber, stored_next, HasNext, HasBadNext}
use Rattle.uefi_vars.proofs.Numbers.{AreWrittenAgain}

-- what is stored tells what the number is, if there is one
same_next : (a b : Option ℕ) → IfSome a IsEntryNumber → IfSome b IsEntryNumber → stored_next a ≡ stored_next b → a ≡ b
same_next None None p q e = refl
same_next None (Some n) p q e = cc
same_next (Some m) None p q e = cc
same_next (Some m) (Some n) p q e =
    let bytes : to_le_bytes w16 m ≡ to_le_bytes w16 n = cc in
    ap (λ (k : ℕ). Some k) (sym (from_le_bytes-to_le_bytes_2 m p) ∙ ap (from_le_bytes w16) bytes ∙ from_le_bytes-to_le_bytes_2 n q)

pub one_next : (vars : Variables) (a b : Option ℕ) → HasNext vars a → HasNext vars b → a ≡ b
one_next vars a b h k = same_next a b h.is k.is (sym h.stored ∙ k.stored)

-- variables with the same under the name have the same next
pub HasNext-along : (vars others : Variables) → get vars next_text ≡ get others next_text → (next : Option ℕ) → HasNext vars next ↔ HasNext others next
HasNext-along vars others e next = (λ h. record { is = h.is; stored = sym e ∙ h.stored }, λ h. record { is = h.is; stored = e ∙ h.stored })

-- what is stored of a number, or of none, isn't bad
not_bad : (next : Option ℕ) → IsSomeAnd (stored_next next) (λ bytes. length bytes ≢ 2) → ⊥
not_bad None bad = bad
not_bad (Some number) bad = bad refl

pub next_is_not_bad : (vars : Variables) (next : Option ℕ) → HasNext vars next → HasBadNext vars → ⊥
next_is_not_bad vars next h bad = not_bad next (rw h.stored at bad)

-- two bytes are a number, and others are bad
number_or_bad : AreWrittenAgain → (bytes : List ℕ) → AllByRecursion IsByte bytes →
    ((number : ℕ) × IsEntryNumber number × (to_le_bytes w16 number ≡ bytes)) ⊎ (length bytes ≢ 2)
number_or_bad again [] valid = inr (λ e. omega arith)
number_or_bad again (low ∷ []) valid = inr (λ e. omega arith)
number_or_bad again (low ∷ high ∷ []) valid = inl (from_le_bytes w16 (low ∷ high ∷ []), omega (arith, valid.0, valid.1.0), again (low ∷ high ∷ []) valid refl)
number_or_bad again (low ∷ high ∷ other ∷ rest) valid = inr (λ e. omega arith)

-- what is stored is of a number, or of none, or is bad
stored_or_bad : AreWrittenAgain → (stored : Option (List ℕ)) → IfSome stored (λ value. IsVariable (next_text, value)) →
    ((next : Option ℕ) × IfSome next IsEntryNumber × (stored ≡ stored_next next)) ⊎ IsSomeAnd stored (λ bytes. length bytes ≢ 2)
stored_or_bad again None valid = inl (None, tt, refl)
stored_or_bad again (Some bytes) valid =
    ⊎_elim (λ good. inl (Some good.0, good.1, ap (λ (t : List ℕ). Some t) (sym good.2))) (λ bad. inr bad) (number_or_bad again bytes valid.1.bytes)

pub next_or_bad : AreWrittenAgain → (vars : Variables) → IsVars vars → ((next : Option ℕ) × HasNext vars next) ⊎ HasBadNext vars
next_or_bad again vars valid =
    ⊎_elim (λ has. inl (has.0, record { is = has.1; stored = has.2 })) (λ bad. inr bad) (stored_or_bad again (get vars next_text) (valid next_text))
