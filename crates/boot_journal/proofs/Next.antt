-- BootNext, once the machine was started in between: what is due leaves it or takes it out, and so each move does (`Throughout`).
use Rattle.std.proofs.Common.{◌≡◌, ◌⊎◌, inl, inr, ⊎_elim, ℕ, zero, suc, Bool, true, false, cond, List, [], ◌∷◌, map, take, Option, Some, None, refl, ap}
use Rattle.std.proofs.Common.{subst, ◌∙◌}
use Rattle.std.specs.FinMap.{get}
use Rattle.std.proofs.lemmas.Cmp.{nat_list_cmp_total, eq_by_cmp_equiv}
use Rattle.std.proofs.lemmas.List.{take-map}
use Rattle.uefi_vars.specs.Name.{next_text}
use Rattle.uefi_vars.specs.Vars.{Variables}
use Rattle.uefi_vars.specs.NameChanges.{after_each}
use Rattle.uefi_vars.specs.BootChange.{ChangeParts, same_name, new_data}
use Rattle.boot_journal.specs.Changes.{made, taken_back, spent}
use Rattle.boot_journal.specs.Journal.{PendingParts, Makes, TakesBack, due, BeganUnderAnother}
use Rattle.boot_journal.specs.Store.{Store}
use Rattle.boot_journal.specs.Moves.{cut_undoing}
use Rattle.boot_journal.specs.Events.{Event, Settles, Undoes, Updates, Fails, Starts, Firmware, World, happens, all_happen, without_next, with_variables}
use Rattle.boot_journal.specs.Events.{LeaveNext, AreNoUpdates}
use Rattle.boot_journal.proofs.Single.{Single}
use Rattle.boot_journal.proofs.Boot.{spent_single, never_set, get-without_next}
use Rattle.boot_journal.proofs.Fronts.{IsNotIn, others_stay}
use Rattle.boot_journal.proofs.Parts.{new-spent}
use Rattle.boot_journal.proofs.Throughout.{Holds, turned_new, undoing_holds}
use Rattle.boot_journal.proofs.Settling.{unturned}

-- BootNext is gone, or is this
abbrev pub IsGoneOr : Option (List ℕ) → Variables → Type 0
IsGoneOr next vars = (get vars next_text ≡ None) ⊎ (get vars next_text ≡ next)

stays_gone : (next : Option (List ℕ)) (same : Bool) (cs : List ChangeParts) → same ≡ false → (m : Variables) (j : ℕ) → IsGoneOr next m →
    IsGoneOr next (made (take j (cond same cs (map spent cs))) m)
stays_gone next same cs other m j is =
    ⊎_elim (λ none. inl (at ∙ none)) (λ kept. ⊎_elim (λ gone. inl (at ∙ kept ∙ gone)) (λ there. inr (at ∙ kept ∙ there)) is)
    (never_set (new_data (take j cs)) m)
  where
    at : get (made (take j (cond same cs (map spent cs))) m) next_text ≡ get (after_each m (map spent_single (new_data (take j cs)))) next_text
    at =
        ap (λ b. get (made (take j (cond b cs (map spent cs))) m) next_text) other
        ∙ ap (λ (l : List ChangeParts). get (made l m) next_text) (take-map spent j cs)
        ∙ ap (λ l. get (after_each m l) next_text) (new-spent (take j cs))

due_gone : (next : Option (List ℕ)) (boot : List ℕ) (p : Option PendingParts) → BeganUnderAnother boot p
    → (m : Variables) (j : ℕ) → IsGoneOr next m → IsGoneOr next (made (take j (due boot p)) m)
due_gone next boot None other m zero is = is
due_gone next boot None other m (suc j) is = is
due_gone next boot (Some (Makes former changes began)) other m j is = stays_gone next (same_name boot began) changes other m j is
due_gone next boot (Some (TakesBack changes began)) other m j is = stays_gone next (same_name boot began) (taken_back changes) other m j is

-- ---- over lists of events

-- each identity that isn't that of what was to be done isn't that of what is
abbrev AreOthers : Option PendingParts → Option PendingParts → Type 0
AreOthers pending p = (other : List ℕ) → BeganUnderAnother other pending → BeganUnderAnother other p

-- BootNext is gone, or is this, and they are so
abbrev Unset : Option (List ℕ) → Option PendingParts → Store → Type 0
Unset next pending s = Holds (IsGoneOr next) (AreOthers pending) s

not_next : (changes : List Single) → LeaveNext changes → IsNotIn next_text changes
not_next [] others = tt
not_next (change ∷ changes) others = ((eq_by_cmp_equiv nat_list_cmp_total).symm change.0 next_text ∙ others.0, not_next changes others.1)

module _ (next : Option (List ℕ)) (pending : Option PendingParts) where
  undoing_unset : (boot : List ℕ) (moves undone : ℕ) (s : Store) → BeganUnderAnother boot pending → Unset next pending s
      → Unset next pending (cut_undoing boot moves undone s)
  undoing_unset boot moves undone s another unset =
      undoing_holds boot (IsGoneOr next) (AreOthers pending) (λ other apart. tt)
      (λ state p others other apart. turned_new other state p (others other apart))
      (λ p others. due_gone next boot p (others boot another)) moves undone s unset

  start_unset : (deletes : Bool) (s : Store) → Unset next pending s → Unset next pending (with_variables (without_next deletes s.variables) s)
  start_unset true s unset = record { variables = inl (get-without_next true s.variables next_text); journal = unset.journal }
  start_unset false s unset = record { variables = unset.variables; journal = unset.journal }

  firmware_unset : (changes : List Single) (s : Store) → LeaveNext changes → Unset next pending s
      → Unset next pending (with_variables (after_each s.variables changes) s)
  firmware_unset changes s leave unset = record {
    variables =
        let same = others_stay changes s.variables next_text (not_next changes leave) in
        ⊎_elim (λ gone. inl (same ∙ gone)) (λ there. inr (same ∙ there)) unset.variables;
    journal = unset.journal;
  }

  all_unset : (w : World) (events : List Event) → BeganUnderAnother w.boot pending → AreNoUpdates pending events → Unset next pending w.store
      → Unset next pending (all_happen w events).store
  all_unset w [] another are unset = unset
  all_unset w (Settles moves ∷ events) another are unset =
      all_unset (happens w (Settles moves)) events another are
      (subst (Unset next pending) (unturned w.boot moves w.store) (undoing_unset w.boot moves 0 w.store another unset))
  all_unset w (Undoes moves undone ∷ events) another are unset =
      all_unset (happens w (Undoes moves undone)) events another are (undoing_unset w.boot moves undone w.store another unset)
  all_unset w (Starts boot deletes ∷ events) another are unset =
      all_unset (happens w (Starts boot deletes)) events are.0 are.1 (start_unset deletes w.store unset)
  all_unset w (Firmware changes ∷ events) another are unset =
      all_unset (happens w (Firmware changes)) events another are.1 (firmware_unset changes w.store are.0 unset)
  all_unset w (Updates to moves ∷ events) another are unset = elim are [ ]
  all_unset w (Fails to moves undone ∷ events) another are unset = elim are [ ]

pub next_of_all : (w : World) (events : List Event) → BeganUnderAnother w.boot w.store.journal.pending → AreNoUpdates w.store.journal.pending events →
    IsGoneOr (get w.store.variables next_text) (all_happen w events).store.variables
next_of_all w events another are =
    (all_unset (get w.store.variables next_text) w.store.journal.pending w events another are
    (record { variables = inr refl; journal = λ other apart. apart })).variables
