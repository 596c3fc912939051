-- What is known of a command whose moves were made one by one: what each of them left, and what it answers.
use Rattle.std.specs.Prelude.{◌≡◌, true, false, ℕ, List, [], ◌∷◌, ◌++◌, Result, IfOk, IfErr}
use Rattle.std.specs.List.{AllByRecursion}
use Rattle.uefi_vars.specs.Vars.{Variables}
use Rattle.boot_journal.specs.declared.machine.CommandError.{CommandError}
use Rattle.boot_journal.specs.Cause.{IfTakenBack, IfUntried, IfTried}
use Rattle.boot_journal.specs.Commands.{IsCommanding, IsCommandMoment, IfUnchanged, IfSettlingFailed, IfUpdatingFailed, IfRunRefused}
use Rattle.boot_journal.specs.Journal.{is_making}
use Rattle.boot_journal.specs.Moves.{IsSettling}
use Rattle.boot_journal.specs.Store.{Store, IsIdle, stands_for, falls_back_to, brought}
use Rattle.boot_moves.specs.declared.parts.Answer.TheVariants.{Perhaps}
use Rattle.boot_moves.specs.Deeds.{Act, Deed, deed, past}

-- the run leads from the one set to the other, with some answer
abbrev pub LeadsTo : {A : Type 0} → (Variables → Variables → A → Type 0) → Variables → Variables → Type 0
LeadsTo {A} Leads from to = (answer : A) × Leads from to answer

-- What a cut leaves after each of these moves is what one leaves in such a command: so it stands for what was there at
-- first, or for what that falls back to, or for what the run leads to.
pub record AreOfCommand (Leads : Variables → Variables → Type 0) (boot : List ℕ) (first : Store) (deeds : List Deed) : Type 0 where
  pub moves : AllByRecursion (IsCommanding Leads boot first) (past deeds first)
  pub moments : AllByRecursion (IsCommandMoment Leads boot first) (past deeds first)

-- the moves with one more, of which isn't known what became
abbrev pub with_asked : List Deed → Act → List Deed
with_asked deeds act = deeds ++ deed act (Perhaps 0) ∷ []

-- how a command ended that led from the one store to the other: what it says of its own answers
pub record Ends {A F : Type 0} (Leads : Variables → Variables → A → Type 0) (Refuses : Variables → F → Type 0) (boot : List ℕ) (first last : Store) (result : Result A (CommandError ℕ F)) : Type 0 where
  pub done : IfOk result (λ answer. (to : Variables) × Leads (stands_for boot first) to answer
      × IsIdle last × (stands_for boot last ≡ brought (stands_for boot first) to))
  pub unchanged : IfErr result (λ error. IfUnchanged error (stands_for boot last ≡ stands_for boot first))
  pub not_run : IfErr result (λ error. IfSettlingFailed error (λ _. IsSettling boot first last))
  pub settling : IfErr result (λ error. IfSettlingFailed error (λ why. IfTakenBack why (IsIdle last
      × (stands_for boot last ≡ falls_back_to boot first))))
  pub settling_tried : IfErr result (λ error. IfSettlingFailed error (λ why. IfUntried why (is_making first.journal.pending ≡ false)))
  pub settling_only_tried : IfErr result (λ error. IfSettlingFailed error (λ why. IfTried why (is_making first.journal.pending ≡ true)))
  pub updating : IfErr result (λ error. IfUpdatingFailed error (λ why. IfTakenBack why (IsIdle last
      × (stands_for boot last ≡ stands_for boot first))))
  pub updating_tried : IfErr result (λ error. IfUpdatingFailed error (λ why. IfUntried why ⊥))
  pub refused : IfErr result (λ error. IfRunRefused error (Refuses (stands_for boot first)))
  pub left : IsCommanding (LeadsTo Leads) boot first last
