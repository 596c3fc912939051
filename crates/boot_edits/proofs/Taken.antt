-- Going over the variables of a set: those of some names are taken, one after the other, and those of the others are skipped.
use Rattle.std.proofs.Common.{◌≡◌, ℕ, Bool, true, false, cond, T, List, [], ◌∷◌, Option, Some, None, refl, sym, ap, subst, ◌∙◌, inl, inr}
use Rattle.std.specs.Ordering.{is_eq, eq_by_cmp}
use Rattle.std.specs.declared.cmp.Ordering.{Ordering}
use Rattle.std.specs.declared.cmp.Ordering.TheVariants.{Less, Equal, Greater}
use Rattle.std.specs.FinMap.{entries, entries_sorted, get, get-entries, get-insert, insert}
use Rattle.std.specs.FinMap.Entries.{find, is_sorted}
use Rattle.std.proofs.lemmas.Bool.{false_from_ne_true, true≢false, false≢true}
use Rattle.std.proofs.lemmas.Cmp.{nat_list_cmp_total}
use Rattle.std.proofs.lemmas.Map.Lookups.{exact_bytes}
use Rattle.std.proofs.lemmas.Map.Views.{tells_apart}
use Rattle.uefi_vars.specs.Vars.{Variables, name_cmp}
use Rattle.uefi_vars.proofs.Maps.{name_cmp-IsAntisymmetric, sorted_parts, find_below}
use Rattle.boot_edits.specs.Steps.{IsStep}

-- what variables that are put one after the other make of the data of one name
abbrev pub over : List (List ℕ × List ℕ) → List ℕ → Option (List ℕ) → Option (List ℕ)
over [] name before = before
over (p ∷ pairs) name before = over pairs name (cond (eq_by_cmp name_cmp name p.0) (Some p.1) before)

abbrev or_else : Option (List ℕ) → Option (List ℕ) → Option (List ℕ)
or_else None before = before
or_else (Some now) before = Some now

-- the names of a set rise, so the last one that is put is the one that is found
over_all : (pairs : List (List ℕ × List ℕ)) → T (is_sorted name_cmp pairs) → (name : List ℕ) (before : Option (List ℕ)) →
    over pairs name before ≡ or_else (find name_cmp name pairs) before
over_all [] rising name before = refl
over_all (p ∷ pairs) rising name before =
    let parts = sorted_parts name_cmp p pairs rising in
    let found = find name_cmp name pairs in
    over_all pairs parts.1 name (cond (eq_by_cmp name_cmp name p.0) (Some p.1) before)
    ∙ elim (name_cmp name p.0) as (λ (r : Ordering). name_cmp name p.0 ≡ r →
    or_else found (cond (is_eq r) (Some p.1) before) ≡ or_else (cond (is_eq r) (Some p.1) found) before) [
      | Less ↦ λ t. refl
      | Equal ↦ λ t. ap (λ f. or_else f (Some p.1)) (ap (λ n. find name_cmp n pairs) (name_cmp-IsAntisymmetric name p.0 t)
          ∙ find_below name_cmp p.0 pairs parts.0)
      | Greater ↦ λ t. refl
    ] refl

-- two tests that can't differ are the same
pub same_or_not : (a b : Bool) → ((a ≡ b → ⊥) → ⊥) → a ≡ b
same_or_not true true h = refl
same_or_not false false h = refl
same_or_not true false h = absurd (h true≢false)
same_or_not false true h = absurd (h false≢true)

-- What is there so far: under the names that are skipped what was there, and with what is still to come put, the target's data under
-- the others.
pub record IsGoing (Skips : List ℕ → Type 0) (old target : Variables) (left : List (List ℕ × List ℕ)) (now : Variables) : Type 0 where
  pub skipped : (name : List ℕ) → Skips name → get now name ≡ get old name
  pub taken : (name : List ℕ) → (Skips name → ⊥) → over left name (get now name) ≡ get target name

module _ (Skips : List ℕ → Type 0) (old target : Variables) where
  -- at first, when nothing is there under the names that are taken
  pub begin : ((name : List ℕ) → (Skips name → ⊥) → get old name ≡ None) → IsGoing Skips old target (entries target) old
  begin none = record {
    skipped = λ name s. refl;
    taken = λ name t.
        ap (over (entries target) name) (none name t) ∙ over_all (entries target) (entries_sorted target) name None
        ∙ or_none (find name_cmp name (entries target)) ∙ sym (get-entries target name);
  }
    where
      or_none : (x : Option (List ℕ)) → or_else x None ≡ x
      or_none None = refl
      or_none (Some x) = refl

  module _ (p : List ℕ × List ℕ) (left : List (List ℕ × List ℕ)) (now : Variables) (before : IsGoing Skips old target (p ∷ left) now) where
    unequal : (a b : List ℕ) → (a ≡ b → ⊥) → eq_by_cmp name_cmp a b ≡ false
    unequal a b differ = false_from_ne_true _ (λ ties. differ (tells_apart exact_bytes a b ties))

    pub skip : Skips p.0 → IsGoing Skips old target left now
    skip s = record {
      skipped = before.skipped;
      taken = λ name t.
          ap (λ b. over left name (cond b (Some p.1) (get now name))) (sym (unequal name p.0 (λ e. t (subst Skips (sym e) s)))) ∙ before.taken name t;
    }

    pub take : (Skips p.0 → ⊥) → IsGoing Skips old target left (insert now p.0 p.1)
    take t = record {
      skipped = λ name s.
          get-insert nat_list_cmp_total now p.0 p.1 name
          ∙ ap (λ b. cond b (Some p.1) (get now name)) (unequal name p.0 (λ e. t (subst Skips e s))) ∙ before.skipped name s;
      taken = λ name u. ap (over left name) (get-insert nat_list_cmp_total now p.0 p.1 name) ∙ before.taken name u;
    }

    -- whichever of the two it is
    pub step : (next : Variables) → IsStep Skips now p next → IsGoing Skips old target left next
    step next (inl s) = subst (IsGoing Skips old target left) (sym s.1) (skip s.0)
    step next (inr t) = subst (IsGoing Skips old target left) (sym t.1) (take t.0)
