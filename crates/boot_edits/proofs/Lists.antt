-- Lists of numbers, of which the first one with a fault is told.
use Rattle.std.proofs.Common.{◌≡◌, ℕ, ◌<◌, Bool, true, false, List, length, take, get_or, Option, Some, None, refl, sym, subst, ◌∙◌, inl, inr}
use Rattle.std.proofs.lemmas.Bool.{cases_order, cases_Bool, false≢true}
use Rattle.boot_requests.specs.Apply.{is_in}
use Rattle.boot_edits.specs.declared.fault.EditFault.{EditFault}
use Rattle.boot_edits.specs.declared.fault.EditFault.TheVariants.{Twice, Missing}
use Rattle.uefi_vars.specs.Vars.{Variables, entry_of}
use Rattle.boot_edits.specs.declared.listed.Need.{Need}
use Rattle.boot_edits.specs.Needs.{IsRefusedFor, order_need}
use Rattle.boot_edits.specs.Lists.{IsStale, IsNoOption, IsFaultAt, AreFine, IsFirstFault}

-- what is refused by itself is refused for one fault
abbrev pub HasOneFault : (ℕ → EditFault → Type 0) → Type 0
HasOneFault IsRefused = (number : ℕ) (f g : EditFault) → IsRefused number f → IsRefused number g → f ≡ g

module _ (IsRefused : ℕ → EditFault → Type 0) (numbers : List ℕ) where
  pub fine_or_not : AreFine IsRefused numbers → (f : EditFault) → IsFirstFault IsRefused numbers f → ⊥
  fine_or_not fine f first = fine first.place first.within f first.here

  module _ (one : HasOneFault IsRefused) where
    one_at : (place : ℕ) (f g : EditFault) → IsFaultAt IsRefused numbers place f → IsFaultAt IsRefused numbers place g → f ≡ g
    one_at place f g (inl a) (inl b) = a.1 ∙ sym b.1
    one_at place f g (inl a) (inr b) = absurd (false≢true (sym b.0 ∙ a.0))
    one_at place f g (inr a) (inl b) = absurd (false≢true (sym a.0 ∙ b.0))
    one_at place f g (inr a) (inr b) = one (get_or numbers place 0) f g a.1 b.1

    pub one_first : (f g : EditFault) → IsFirstFault IsRefused numbers f → IsFirstFault IsRefused numbers g → f ≡ g
    one_first f g a b = elim (cases_order a.place b.place) [
      | inl same ↦ one_at b.place f g (subst (λ (p : ℕ). IsFaultAt IsRefused numbers p f) same a.here) b.here
      | inr (inl below) ↦ absurd (b.first a.place below f a.here)
      | inr (inr above) ↦ absurd (a.first b.place above g b.here)
    ]

-- what is fine to be switched is there
pub stored_at : (vars : Variables) (numbers : List ℕ) → AreFine (IsNoOption vars) numbers → (place : ℕ) → place < length numbers
    → (bytes : List ℕ) × (entry_of vars (get_or numbers place 0) ≡ Some bytes)
stored_at vars numbers fine place within = by (entry_of vars (get_or numbers place 0)) refl
  where
    by : (stored : Option (List ℕ)) → entry_of vars (get_or numbers place 0) ≡ stored → (bytes : List ℕ) × (entry_of vars (get_or numbers place 0) ≡ Some bytes)
    by (Some bytes) is = (bytes, is)
    by None is = absurd (elim (cases_Bool (is_in (take place numbers) (get_or numbers place 0))) [
      | inl twice ↦ fine place within (Twice (get_or numbers place 0)) (inl (twice, refl))
      | inr once ↦ fine place within (Missing (get_or numbers place 0)) (inr (once, inl (refl, is)))
    ])

-- what is refused by what a number for an order needs is refused as stale, or isn't refused
pub as_stale : (P : (ℕ → EditFault → Type 0) → Type 0) (vars : Variables) (stale : Bool) (need : Need) → need ≡ order_need stale
    → P (IsRefusedFor need vars) → P (IsStale stale vars)
as_stale P vars true need is h = subst (λ (n : Need). P (IsRefusedFor n vars)) is h
as_stale P vars false need is h = subst (λ (n : Need). P (IsRefusedFor n vars)) is h
