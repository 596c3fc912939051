-- What holds throughout a settling or an update, whatever is cut off when. Let P hold of the variables and be kept by changes that are
-- due, and let Q hold of what is to be done, be kept when that is turned, and hold if nothing is to be done. Then both hold after each
-- move: moves make the first of the changes, or make all of them and replace the journal.
use Rattle.std.proofs.Common.{⊎_elim, ℕ, zero, suc, List, length, take, Option, Some, None, sym, subst}
use Rattle.std.proofs.Math.Seq.{take-length}
use Rattle.uefi_vars.specs.Vars.{Variables}
use Rattle.uefi_vars.specs.BootChange.{ChangeParts}
use Rattle.boot_journal.specs.Changes.{made}
use Rattle.boot_journal.specs.Journal.{JournalParts, PendingParts, Makes, TakesBack, idle, due, turned, turned_by, BeganUnderAnother}
use Rattle.boot_journal.specs.Store.{Store, with_journal}
use Rattle.boot_journal.specs.Moves.{cut_making, cut_carrying, cut_settling, cut_settling_by, cut_undoing, cut_undoing_by}
use Rattle.boot_journal.proofs.Making.{making_is}

-- P holds of the variables, and Q of what is to be done
pub record Holds (P : Variables → Type 0) (Q : Option PendingParts → Type 0) (s : Store) : Type 0 where
  pub variables : P s.variables
  pub journal : Q s.journal.pending

module _ (boot : List ℕ) (P : Variables → Type 0) (Q : Option PendingParts → Type 0) (none : Q None)
    (turns : (state : Option (List ℕ)) (p : Option PendingParts) → Q p → Q (turned_by state p).pending)
    (dues : (p : Option PendingParts) → Q p → (m : Variables) (j : ℕ) → P m → P (made (take j (due boot p)) m)) where
  making_holds : (k : ℕ) (p : Option PendingParts) (state : Option (List ℕ)) (s : Store) → Q p → Holds P Q s
      → Holds P Q (cut_making k (due boot p) (idle state) s)
  making_holds k p state s is holds = ⊎_elim
      (λ amid. subst (Holds P Q) (sym amid) (record { variables = dues p is s.variables k holds.variables; journal = holds.journal }))
      (λ done. subst (Holds P Q) (sym done) (record {
        variables =
            subst (λ (l : List ChangeParts). P (made l s.variables)) (take-length (due boot p)) (dues p is s.variables (length (due boot p)) holds.variables);
        journal = none;
      }))
      (making_is k (due boot p) (idle state) s)

  settling_holds_by : (p : Option PendingParts) (k : ℕ) (s : Store) → Q p → Holds P Q s → Holds P Q (cut_settling_by p boot k s)
  settling_holds_by None k s is holds = holds
  settling_holds_by (Some pending) k s is holds = making_holds k (Some pending) s.journal.state s is holds

  pub settling_holds : (k : ℕ) (s : Store) → Holds P Q s → Holds P Q (cut_settling boot k s)
  settling_holds k s holds = settling_holds_by s.journal.pending k s holds.journal holds

  pub carrying_holds : (journal : JournalParts) (k : ℕ) (s : Store) → Q journal.pending → Holds P Q s → Holds P Q (cut_carrying boot journal k s)
  carrying_holds journal zero s is holds = holds
  carrying_holds journal (suc k) s is holds =
      making_holds k journal.pending journal.state (with_journal journal s) is (record { variables = holds.variables; journal = is })

  undoing_holds_by : (p : Option PendingParts) (k undone : ℕ) (s : Store) → Holds P Q s → Holds P Q (cut_undoing_by p boot k undone s)
  undoing_holds_by None k undone s holds = holds
  undoing_holds_by (Some (Makes former changes began)) k undone s holds =
      carrying_holds (turned s.journal) undone (cut_settling boot k s) (turns s.journal.state s.journal.pending holds.journal) (settling_holds k s holds)
  undoing_holds_by (Some (TakesBack changes began)) k undone s holds = settling_holds k s holds

  pub undoing_holds : (k undone : ℕ) (s : Store) → Holds P Q s → Holds P Q (cut_undoing boot k undone s)
  undoing_holds k undone s holds = undoing_holds_by s.journal.pending k undone s holds

-- what began under another identity does when it is turned
pub turned_new : (boot : List ℕ) (state : Option (List ℕ)) (p : Option PendingParts) → BeganUnderAnother boot p
    → BeganUnderAnother boot (turned_by state p).pending
turned_new boot state None new = new
turned_new boot state (Some (Makes former changes began)) new = new
turned_new boot state (Some (TakesBack changes began)) new = new
