-- What single entries of profiles make of variables: afterwards they are met, and only entries with their descriptions differ.
use Rattle.std.proofs.Common.{◌≡◌, ℕ, ◌≤◌, List, [], ◌∷◌, length, Option, Some, None, IfSome, refl, sym, ap, subst, ◌∙◌, inl, inr, nat_cmp}
use Rattle.std.specs.FinMap.{get}
use Rattle.std.proofs.lemmas.Bool.{cases_eq, cases_Bool, cond-true, cond-false, eq-eqb, ne_eqb, false≢true}
use Rattle.std.proofs.lemmas.Option.{none-some}
use Rattle.uefi_vars.specs.AtRisk.{AreThose}
use Rattle.uefi_vars.specs.Name.{entry_text}
use Rattle.uefi_vars.specs.Order.{IsEntryNumber}
use Rattle.uefi_vars.specs.NameChanges.{with_data}
use Rattle.uefi_vars.specs.Vars.{Variables, entry_of, data_max, IsVars, IsVariable}
use Rattle.uefi_vars.proofs.Names.{names_apart}
use Rattle.uefi_vars.proofs.Records.{none_rise}
use Rattle.boot_requests.specs.Apply.{is_in}
use Rattle.boot_requests.proofs.Variables.Stored.{stored_here, stored_apart, stored_beside, stored_again}
use Rattle.boot_profiles.specs.declared.profile.EntryState.{EntryState}
use Rattle.boot_profiles.specs.declared.profile.EntryState.TheVariants.{Absent, Present}
use Rattle.boot_profiles.specs.declared.profile.PresentEntry.{PresentEntry}
use Rattle.boot_profiles.specs.declared.profile.ProfileEntry.{ProfileEntry}
use Rattle.boot_profiles.specs.Described.{HasDescription, IsNumberOf, IsUnknown}
use Rattle.boot_profiles.specs.Entry.{wanted_bytes, IsNew, IsReplaced, IsPresentStep, IsTakenOut, IsStateStep, IsEntryStep}
use Rattle.boot_profiles.specs.Met.{IsThere, IsStateMet, IsEntryMet}
use Rattle.boot_profiles.proofs.Bytes.{ChangesOneBit, wanted_again, wanted_has, has_switched}
use Rattle.boot_profiles.proofs.Descriptions.{AreSame, IsOwn, DifferInOwn, number_back}
use Rattle.boot_profiles.proofs.Numbers.{contained_in, is_in_contained, nothing_in}

-- ---- what is met stays so while the entries with its description are the same

pub state_kept : (d : List ℕ) (from to : Variables) → AreSame d from to → (state : EntryState) → IsStateMet from d state → IsStateMet to d state
state_kept d from to same Absent met = λ n k. met n (number_back d from to same n k)
state_kept d from to same (Present entry) met = record {
  number = met.number;
  bytes = met.bytes;
  here = same.there met.number met.bytes met.here;
  alone = λ o k. met.alone o (number_back d from to same o k);
  as_wanted = met.as_wanted;
}

-- ---- an entry that is taken out

module _ (d : List ℕ) (from to : Variables) where
  out_differ : (numbers : List ℕ) → AreThose (IsNumberOf from d) numbers → IsTakenOut from numbers to → DifferInOwn d from to
  out_differ [] those same = record {
    entries = λ n p. inl (ap (λ (v : Variables). entry_of v n) same);
    others = λ name o. ap (λ (v : Variables). get v name) same;
  }
  out_differ (first ∷ numbers) those out = record {
    entries = λ n p. elim (cases_Bool (is_in (first ∷ numbers) n)) [
      | inl listed ↦
          let k = (those.are n).0 (contained_in (first ∷ numbers) n listed) in
          inr (
            subst (IsOwn d) (sym k.1.stored) k.1.has,
            subst (IsOwn d) (sym (out.becomes.entries n p ∙ cond-true _ _ _ listed)) tt,
          )
      | inr other ↦ inl (out.becomes.entries n p ∙ cond-false _ _ _ other)
    ];
    others = out.becomes.others;
  }

  out_met : (numbers : List ℕ) → AreThose (IsNumberOf from d) numbers → IsTakenOut from numbers to → IsUnknown to d
  out_met [] those same = λ n k. nothing_in n ((those.are n).1 (subst (λ (v : Variables). IsNumberOf v d n) same k))
  out_met (first ∷ numbers) those out = λ n k. elim (cases_Bool (is_in (first ∷ numbers) n)) [
    | inl listed ↦ none-some k.0 (sym (out.becomes.entries n k.1.is ∙ cond-true _ _ _ listed) ∙ k.1.stored)
    | inr other ↦
        let before : IsNumberOf from d n =
        (k.0, record { is = k.1.is; stored = sym (out.becomes.entries n k.1.is ∙ cond-false _ _ _ other) ∙ k.1.stored; has = k.1.has }) in
        false≢true (sym other ∙ is_in_contained (first ∷ numbers) n ((those.are n).1 before))
  ]

  -- ---- an entry that is added

  module _ (bytes : List ℕ) (new : IsNew from bytes to) where
    at_new : (n : ℕ) → IsEntryNumber n → new.number ≡ n → entry_of to n ≡ Some bytes
    at_new n p same = new.becomes.entries n p ∙ cond-true _ _ _ (eq-eqb new.number n same)

    beside_new : (n : ℕ) → IsEntryNumber n → (new.number ≡ n → ⊥) → entry_of to n ≡ entry_of from n
    beside_new n p differ = new.becomes.entries n p ∙ cond-false _ _ _ (ne_eqb new.number n differ)

    new_differ : HasDescription bytes d → DifferInOwn d from to
    new_differ has = record {
      entries = λ n p. elim (cases_eq new.number n) [
        | inl same ↦ inr (
          subst (IsOwn d) (sym (ap (entry_of from) (sym same) ∙ new.free.free)) tt,
          subst (IsOwn d) (sym (at_new n p same)) has,
        )
        | inr differ ↦ inl (beside_new n p differ)
      ];
      others = new.becomes.others;
    }

    new_alone : IsUnknown from d → (n : ℕ) → IsNumberOf to d n → n ≡ new.number
    new_alone unknown n k = elim (cases_eq new.number n) [
      | inl same ↦ sym same
      | inr differ ↦
          absurd (unknown n (k.0, record { is = k.1.is; stored = sym (beside_new n k.1.is differ) ∙ k.1.stored; has = k.1.has }))
    ]

    new_met : (entry : PresentEntry) → IsUnknown from d → HasDescription bytes d → bytes ≡ wanted_bytes entry bytes → IsThere to d entry
    new_met entry unknown has wanted = record {
      number = new.number;
      bytes = bytes;
      here = record { is = new.free.is; stored = at_new new.number new.free.is refl; has = has };
      alone = new_alone unknown;
      as_wanted = wanted;
    }

  -- ---- an entry that is replaced

  module _ (entry : PresentEntry) (old : IsReplaced from d entry to) (has : HasDescription (wanted_bytes entry old.bytes) d) where
    abbrev bytes : List ℕ
    bytes = wanted_bytes entry old.bytes

    at_old : entry_of to old.number ≡ Some bytes
    at_old = ap (λ (v : Variables). entry_of v old.number) old.is ∙ stored_here from (entry_text old.number) (Some bytes)

    beside_old : (n : ℕ) → IsEntryNumber n → (old.number ≡ n → ⊥) → entry_of to n ≡ entry_of from n
    beside_old n p differ =
        ap (λ (v : Variables). entry_of v n) old.is
        ∙ stored_apart from (entry_text old.number) (Some bytes) (entry_text n) (λ e. differ (names_apart old.number n old.here.is p e))

    old_differ : DifferInOwn d from to
    old_differ = record {
      entries = λ n p. elim (cases_eq old.number n) [
        | inl same ↦ inr (
          subst (λ (k : ℕ). IsOwn d (entry_of from k)) same (subst (IsOwn d) (sym old.here.stored) old.here.has),
          subst (λ (k : ℕ). IsOwn d (entry_of to k)) same (subst (IsOwn d) (sym at_old) has),
        )
        | inr differ ↦ inl (beside_old n p differ)
      ];
      others = λ name o.
          ap (λ (v : Variables). get v name) old.is
          ∙ stored_beside from (entry_text old.number) (Some bytes) name (o.entry old.number old.here.is);
    }

    old_met : IsThere to d entry
    old_met = record {
      number = old.number;
      bytes = bytes;
      here = record { is = old.here.is; stored = at_old; has = has };
      alone = λ n k. elim (cases_eq old.number n) [
        | inl same ↦ sym same
        | inr differ ↦
            old.alone n (k.0, record { is = k.1.is; stored = sym (beside_old n k.1.is differ) ∙ k.1.stored; has = k.1.has })
      ];
      as_wanted = wanted_again entry old.bytes;
    }

-- ---- either

module _ (bit : ChangesOneBit) (from to : Variables) where
  present_differ : (d : List ℕ) (entry : PresentEntry) → IsPresentStep from d entry to → DifferInOwn d from to
  present_differ d entry (own, inl new) = new_differ d from to (wanted_bytes entry entry.option.items) new.1 (wanted_has bit entry entry.option.items d own)
  present_differ d entry (own, inr old) = old_differ d from to entry old (wanted_has bit entry old.bytes d own)

  present_met : (d : List ℕ) (entry : PresentEntry) → IsPresentStep from d entry to → IsThere to d entry
  present_met d entry (own, inl new) =
      new_met d from to (wanted_bytes entry entry.option.items) new.1 entry new.0 (wanted_has bit entry entry.option.items d own)
      (wanted_again entry entry.option.items)
  present_met d entry (own, inr old) = old_met d from to entry old (wanted_has bit entry old.bytes d own)

  state_differ : (d : List ℕ) (state : EntryState) → IsStateStep from d state to → DifferInOwn d from to
  state_differ d Absent step = out_differ d from to step.0 step.1 step.2
  state_differ d (Present entry) step = present_differ d entry step

  state_met : (d : List ℕ) (state : EntryState) → IsStateStep from d state to → IsStateMet to d state
  state_met d Absent step = out_met d from to step.0 step.1 step.2
  state_met d (Present entry) step = present_met d entry step

  pub entry_differ : (entry : ProfileEntry) → IsEntryStep from entry to → DifferInOwn entry.description from to
  entry_differ entry step = state_differ entry.description entry.state step

  pub entry_met : (entry : ProfileEntry) → IsEntryStep from entry to → IsEntryMet to entry
  entry_met entry step = state_met entry.description entry.state step

-- ---- what is met makes nothing

module _ (bit : ChangesOneBit) (vars : Variables) (valid : IsVars vars) where
  -- what is stored is no longer than data is
  fits_stored : (name bytes : List ℕ) → get vars name ≡ Some bytes → length bytes ≤ data_max
  fits_stored name bytes stored = by (get vars name) (valid name) stored
    where
      by : (found : Option (List ℕ)) → IfSome found (λ value. IsVariable (name, value)) → found ≡ Some bytes → length bytes ≤ data_max
      by None is e = absurd (none-some bytes e)
      by (Some value) is e = let same : value ≡ bytes = cc e in subst (λ (b : List ℕ). length b ≤ data_max) same is.1.len

  state_done : (d : List ℕ) (state : EntryState) → IsStateMet vars d state → IsStateStep vars d state vars
  state_done d Absent met =
      ([], record { rising = none_rise nat_cmp; are = λ n. (λ c. absurd (nothing_in n c), λ k. absurd (met n k)) }, refl)
  state_done d (Present entry) met =
      let has = subst (λ (b : List ℕ). HasDescription b d) met.as_wanted met.here.has in (
        has_switched bit _ entry.option.items d has,
        inr (record {
          number = met.number;
          bytes = met.bytes;
          here = met.here;
          alone = met.alone;
          fits = subst (λ (b : List ℕ). length b ≤ data_max) met.as_wanted (fits_stored (entry_text met.number) met.bytes met.here.stored);
          is = sym (subst (λ (s : Option (List ℕ)). with_data vars (entry_text met.number) s ≡ vars)
              (met.here.stored ∙ ap (λ (b : List ℕ). Some b) met.as_wanted) (stored_again vars (entry_text met.number)));
        }),
      )

  pub entry_done : (entry : ProfileEntry) → IsEntryMet vars entry → IsEntryStep vars entry vars
  entry_done entry met = state_done entry.description entry.state met
