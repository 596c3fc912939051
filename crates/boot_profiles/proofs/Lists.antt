-- What all entries of a profile make of variables, one after the other.
use Rattle.std.proofs.Common.{◌≡◌, ℕ, List, [], ◌∷◌, Some, refl, sym, ap, subst, ◌∙◌, ⊎_elim, inl, inr}
use Rattle.std.specs.FinMap.{get}
use Rattle.uefi_vars.specs.Order.{IsEntryNumber}
use Rattle.uefi_vars.specs.Vars.{Variables, IsVars, entry_of}
use Rattle.boot_edits.specs.Parts.{IsOtherName}
use Rattle.boot_edits.proofs.Targets.{SpellOne}
use Rattle.boot_profiles.specs.declared.profile.ProfileEntry.{ProfileEntry}
use Rattle.boot_profiles.specs.Applied.{IsAmong, AreSteps}
use Rattle.boot_profiles.specs.Described.{HasDescription}
use Rattle.boot_profiles.specs.Met.{AreMet}
use Rattle.boot_profiles.proofs.Bytes.{ChangesOneBit}
use Rattle.boot_profiles.proofs.Descriptions.{AreSame, IsOwn, KeepsEntries, same_entries, others_same}
use Rattle.boot_profiles.proofs.SingleEntries.{state_kept, entry_differ, entry_met, entry_done}

then_same : (d : List ℕ) (from between to : Variables) → AreSame d from between → AreSame d between to → AreSame d from to
then_same d from between to a b = record {
  there = λ n bytes h. b.there n bytes (a.there n bytes h);
  back = λ n bytes h. a.back n bytes (b.back n bytes h);
}

pub all_kept : (from to : Variables) → KeepsEntries from to → (entries : List ProfileEntry) → AreMet from entries → AreMet to entries
all_kept from to same [] met = tt
all_kept from to same (entry ∷ entries) met = (
  state_kept entry.description from to (same_entries entry.description from to same) entry.state met.0,
  met.1,
  all_kept from to same entries met.2,
)

module _ (bit : ChangesOneBit) where
  -- variables of other names stay
  pub steps_others : (entries : List ProfileEntry) (from to : Variables) → AreSteps entries from to → (name : List ℕ) → IsOtherName name →
      get to name ≡ get from name
  steps_others [] from to done name other = ap (λ (v : Variables). get v name) done
  steps_others (entry ∷ entries) from to done name other =
      steps_others entries done.0 to done.2 name other ∙ (entry_differ bit from done.0 entry done.1.made).others name other

  -- so do entries that have none of the descriptions
  pub steps_left : (entries : List ProfileEntry) (from to : Variables) → AreSteps entries from to → (n : ℕ) → IsEntryNumber n → (bytes : List ℕ) →
      ((d : List ℕ) → IsAmong entries d → HasDescription bytes d → ⊥) → entry_of from n ≡ Some bytes → entry_of to n ≡ Some bytes
  steps_left [] from to done n fits bytes none stored = ap (λ (v : Variables). entry_of v n) done ∙ stored
  steps_left (entry ∷ entries) from to done n fits bytes none stored =
      steps_left entries done.0 to done.2 n fits bytes (λ d among. none d (inr among))
      (⊎_elim (λ (same : entry_of done.0 n ≡ entry_of from n). same ∙ stored)
      (λ (own : IsOwn entry.description (entry_of from n) × IsOwn entry.description (entry_of done.0 n)).
      absurd (none entry.description (inl refl) (subst (IsOwn entry.description) stored own.0)))
      ((entry_differ bit from done.0 entry done.1.made).entries n fits))

  -- and none comes
  pub steps_none : (entries : List ProfileEntry) (from to : Variables) → AreSteps entries from to → (n : ℕ) → IsEntryNumber n → (bytes : List ℕ) →
      ((d : List ℕ) → IsAmong entries d → HasDescription bytes d → ⊥) → entry_of to n ≡ Some bytes → entry_of from n ≡ Some bytes
  steps_none [] from to done n fits bytes none stored = ap (λ (v : Variables). entry_of v n) (sym done) ∙ stored
  steps_none (entry ∷ entries) from to done n fits bytes none stored =
      let between = steps_none entries done.0 to done.2 n fits bytes (λ d among. none d (inr among)) stored in
      ⊎_elim (λ (same : entry_of done.0 n ≡ entry_of from n). sym same ∙ between)
      (λ (own : IsOwn entry.description (entry_of from n) × IsOwn entry.description (entry_of done.0 n)).
      absurd (none entry.description (inl refl) (subst (IsOwn entry.description) between own.1)))
      ((entry_differ bit from done.0 entry done.1.made).entries n fits)

  module _ (one : SpellOne) where
    -- entries of a description that isn't among them stay
    steps_same : (entries : List ProfileEntry) (from to : Variables) (d : List ℕ) → AreSteps entries from to → (IsAmong entries d → ⊥) → AreSame d from to
    steps_same [] from to d done none = same_entries d from to (λ n p. ap (λ (v : Variables). entry_of v n) done)
    steps_same (entry ∷ entries) from to d done none =
        then_same d from done.0 to
        (others_same one entry.description d from done.0 (λ e. none (inl e)) (entry_differ bit from done.0 entry done.1.made))
        (steps_same entries done.0 to d done.2 (λ among. none (inr among)))

    -- so all are met in the end
    pub steps_met : (entries : List ProfileEntry) (from to : Variables) → AreSteps entries from to → AreMet to entries
    steps_met [] from to done = tt
    steps_met (entry ∷ entries) from to done = (
      state_kept entry.description done.0 to (steps_same entries done.0 to entry.description done.2 done.1.own)
          entry.state (entry_met bit from done.0 entry done.1.made),
      done.1.own,
      steps_met entries done.0 to done.2,
    )

  -- if all are met, they make nothing
  pub steps_done : (vars : Variables) → IsVars vars → (entries : List ProfileEntry) → AreMet vars entries → AreSteps entries vars vars
  steps_done vars valid [] met = refl
  steps_done vars valid (entry ∷ entries) met = (
    vars,
    record { own = met.1; made = entry_done bit vars valid entry met.0 },
    steps_done vars valid entries met.2,
  )
