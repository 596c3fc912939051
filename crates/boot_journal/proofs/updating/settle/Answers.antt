-- The work that `settle` makes is that of the journal that was read, so where a cut comes as `go_on` does it is where one comes in
-- a settling (`settling`), and what `go_on` says of errors is so of what is there.
use Rattle.std.proofs.Common.{true, false, sym, ◌≡◌, None, subst, ap, ◌∙◌, rules}
use Rattle.boot_journal.specs.Journal.{JournalParts, turned, is_making}
use Rattle.boot_journal.specs.Moves.{IsSettling}
use Rattle.boot_journal.specs.Store.{Store}
use Rattle.boot_journal.specs.Working.{IsWork, IsGoingOn}
use Rattle.boot_journal.proofs.Errors.{something_done, taken_back_then, untried_then, tried_then}
use Rattle.boot_journal.proofs.Failures.{untouched}
use Rattle.boot_journal.proofs.Moments.{weaker}
use Rattle.boot_journal.proofs.Settling.{AreWork, going_is_settling, settling_either, taken_back_stands}
use Rattle.boot_journal.proofs.updating.settle.Given.{Over}
use Rattle.boot_journal.proofs.updating.settle.Goals.{In_ok-work}
use Rattle.boot_journal.proofs.updating.settle.Goals as goal

are : (g : Over) (c : In_ok-work g) → AreWork c.args.boot.now (g.M.Machine.store c.args.machine.now) c.in_ok-work.work c.in_ok-back.back
are g c = record {
  forward = subst (λ (j : JournalParts). IsWork c.args.boot.now j c.in_ok-work.work) c.in_ok-journal.ensures c.in_ok-work.ensures;
  backward = subst (λ (j : JournalParts). IsWork c.args.boot.now j c.in_ok-back.back)
      (c.in_ok-turned.ensures ∙ ap turned c.in_ok-journal.ensures) c.in_ok-back.ensures;
}

settling : (g : Over) (c : In_ok-work g) (cut : Store) → IsGoingOn c.in_ok-work.work c.in_ok-back.back (g.M.Machine.store c.args.machine.now) cut
    → IsSettling c.args.boot.now (g.M.Machine.store c.args.machine.now) cut
settling g c cut =
    let s = g.M.Machine.store c.args.machine.now in
    let some : s.journal.pending ≡ None → ⊥ =
    search (rules, λ (e : s.journal.pending ≡ None). (ap (λ (j : JournalParts). j.pending) c.in_ok-journal.ensures) ∙ e) in
    going_is_settling c.args.boot.now c.in_ok-work.work c.in_ok-back.back s cut (are g c) some

pub returns-clause-nothing : goal.returns-clause-nothing
returns-clause-nothing g c = something_done _ _ c.go_on.ensures.something

pub returns-clause-taken_back : goal.returns-clause-taken_back
returns-clause-taken_back g c =
    taken_back_then _ _ _ (taken_back_stands c.args.boot.now c.in_ok-work.work c.in_ok-back.back (g.M.Machine.store c.args.machine.now) _
    (are g (goal.at.returns-clause-taken_back g c).In_ok-work)) c.go_on.ensures.taken_back

pub returns-clause-tried : goal.returns-clause-tried
returns-clause-tried g c =
    let journal_is = (are g (goal.at.returns-clause-tried g c).In_ok-work).forward.journal_is in
    untried_then (is_making c.in_ok-work.work.journal.pending ≡ false) (is_making (g.M.Machine.store c.args.machine.now).journal.pending ≡ false)
    c.go_on.result (λ e. ap (λ (j : JournalParts). is_making j.pending) (sym journal_is) ∙ e) c.go_on.ensures.tried

pub returns-clause-only_tried : goal.returns-clause-only_tried
returns-clause-only_tried g c =
    let journal_is = (are g (goal.at.returns-clause-only_tried g c).In_ok-work).forward.journal_is in
    tried_then (is_making c.in_ok-work.work.journal.pending ≡ true) (is_making (g.M.Machine.store c.args.machine.now).journal.pending ≡ true)
    c.go_on.result (λ e. ap (λ (j : JournalParts). is_making j.pending) (sym journal_is) ∙ e) c.go_on.ensures.only_tried

pub returns-clause-moves : goal.returns-clause-moves
returns-clause-moves g c = weaker _ _ _ _ (settling g (goal.at.returns-clause-moves g c).In_ok-work) c.go_on.ensures.moments

pub returns-clause-any_moment : goal.returns-clause-any_moment
returns-clause-any_moment g c =
    weaker _ _ _ _ (λ cut at. settling_either c.args.boot.now (g.M.Machine.store c.args.machine.now) cut
    (settling g (goal.at.returns-clause-any_moment g c).In_ok-work cut at)) c.go_on.ensures.moments

pub returns-clause-left : goal.returns-clause-left
returns-clause-left g c =
    settling g (goal.at.returns-clause-left g c).In_ok-work (g.M.Machine.store c.go_on.new.machine) c.go_on.ensures.left

pub returns-in_err-work-clause-failed_moves : goal.returns-in_err-work-clause-failed_moves
returns-in_err-work-clause-failed_moves g c = untouched (g.M.Machine.failures c.args.machine.now) c.from_residual-in_err-work.result (search rules)
