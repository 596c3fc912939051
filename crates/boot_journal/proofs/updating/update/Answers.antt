-- The journal that `update` begins is that of an update to these variables (`begun_is`), and its work is that of this journal (`are`).
-- So where a cut comes as `undertake` does it is where one comes in an update.
use Rattle.std.proofs.Common.{refl, sym, ◌≡◌, ◌⊎◌, ⊎_elim, subst, ap, ◌∙◌, Err}
use Rattle.std.proofs.lemmas.Bool.{true≢false}
use Rattle.std.proofs.lemmas.Result.{on_ok_weaker, err_from_is_err_and}
use Rattle.boot_journal.specs.Journal.{JournalParts, turned}
use Rattle.boot_journal.specs.Store.{journal_to}
use Rattle.boot_journal.specs.Working.{IsWork, IsGivenUp}
use Rattle.boot_journal.proofs.Errors.{something_done, taken_back_then}
use Rattle.boot_journal.proofs.Failures.{untouched}
use Rattle.boot_journal.proofs.Moments.{weaker}
use Rattle.boot_journal.proofs.Unchanged.{unchanged, nothing_changes}
use Rattle.boot_journal.proofs.Updates.{AreWorkTo, journal_is, undertaking_is_updating, updating_either, given_up_same, undertaken_is}
use Rattle.boot_journal.proofs.updating.update.Given.{Over}
use Rattle.boot_journal.proofs.updating.update.Goals.{In_ok-journal, In_ok-work}
use Rattle.boot_journal.proofs.updating.update.Goals as goal

begun_is : (g : Over) (c : In_ok-journal g) → c.in_ok-journal.journal ≡ journal_to c.args.boot.now (g.M.Machine.store c.args.machine.now) c.args.to.now
begun_is g c =
    journal_is c.args.boot.now c.args.to.now
    (g.M.Machine.store c.args.machine.now) c.in_ok-from.from c.in_ok-journal.journal c.in_ok-from.ensures c.in_ok-journal.ensures

are : (g : Over) (c : In_ok-work g) → AreWorkTo c.args.boot.now c.args.to.now (g.M.Machine.store c.args.machine.now) c.in_ok-work.work c.in_ok-back.back
are g c =
    let is : c.in_ok-journal.journal ≡ journal_to c.args.boot.now (g.M.Machine.store c.args.machine.now) c.args.to.now =
    journal_is c.args.boot.now c.args.to.now
    (g.M.Machine.store c.args.machine.now) c.in_ok-from.from c.in_ok-journal.journal c.in_ok-from.ensures c.in_ok-journal.ensures in
    record {
      forward = subst (λ (j : JournalParts). IsWork c.args.boot.now j c.in_ok-work.work) is c.in_ok-work.ensures;
      backward = subst (λ (j : JournalParts). IsWork c.args.boot.now j c.in_ok-back.back) (c.in_ok-turned.ensures ∙ ap turned is) c.in_ok-back.ensures;
    }

pub returns-then-changes_nothing-clause-done : goal.returns-then-changes_nothing-clause-done
returns-then-changes_nothing-clause-done g c =
    unchanged c.args.boot.now c.args.to.now (g.M.Machine.store c.args.machine.now) c.in_ok-journal.journal c.requires
    (begun_is g (goal.at.returns-then-changes_nothing-clause-done g c).In_ok-journal) (c.changes_nothing.ensures.0 c.if-changes_nothing.true)

pub returns-clause-unmoved : goal.returns-clause-unmoved
returns-clause-unmoved g c = λ same.
    let nothing = nothing_changes c.each_change_is_needed.ensures c.keep_is_no_boot_name.ensures c.each_change_is_of_another_variable.ensures
    c.args.boot.now c.args.to.now (g.M.Machine.store c.args.machine.now) c.in_ok-journal.journal
    (begun_is g (goal.at.returns-clause-unmoved g c).In_ok-journal) same in
    absurd (true≢false (sym (c.changes_nothing.ensures.1 nothing) ∙ c.if-changes_nothing.false))

pub returns-clause-done : goal.returns-clause-done
returns-clause-done g c =
    on_ok_weaker _ (undertaken_is c.each_change_is_needed.ensures c.keep_is_no_boot_name.ensures c.args.boot.now c.args.to.now
    (g.M.Machine.store c.args.machine.now) _
    c.in_ok-work.work c.in_ok-back.back (are g (goal.at.returns-clause-done g c).In_ok-work)) c.undertake.ensures.done

pub returns-clause-nothing : goal.returns-clause-nothing
returns-clause-nothing g c = something_done _ _ c.undertake.ensures.something

pub returns-clause-taken_back : goal.returns-clause-taken_back
returns-clause-taken_back g c =
    let s = g.M.Machine.store c.args.machine.now in
    let now = g.M.Machine.store c.undertake.new.machine in
    taken_back_then ((now ≡ s) ⊎ IsGivenUp c.in_ok-work.work c.in_ok-back.back s now) (now ≡ s) _
    (λ either. ⊎_elim (λ same. same)
    (given_up_same c.each_change_is_needed.ensures c.keep_is_no_boot_name.ensures c.args.boot.now c.args.to.now s now
    c.in_ok-work.work c.in_ok-back.back c.requires
    (are g (goal.at.returns-clause-taken_back g c).In_ok-work)) either) c.undertake.ensures.taken_back

pub returns-clause-moves : goal.returns-clause-moves
returns-clause-moves g c =
    weaker _ _ _ _ (λ cut. undertaking_is_updating c.args.boot.now c.args.to.now (g.M.Machine.store c.args.machine.now) cut
    c.in_ok-work.work c.in_ok-back.back (are g (goal.at.returns-clause-moves g c).In_ok-work)) c.undertake.ensures.moments

pub returns-clause-any_moment : goal.returns-clause-any_moment
returns-clause-any_moment g c =
    let s = g.M.Machine.store c.args.machine.now in
    weaker _ _ _ _ (λ cut at. updating_either c.each_change_is_needed.ensures c.keep_is_no_boot_name.ensures c.args.boot.now c.args.to.now s cut c.requires
    (undertaking_is_updating c.args.boot.now c.args.to.now s cut c.in_ok-work.work c.in_ok-back.back
    (are g (goal.at.returns-clause-any_moment g c).In_ok-work) at)) c.undertake.ensures.moments

pub returns-clause-left : goal.returns-clause-left
returns-clause-left g c =
    undertaking_is_updating c.args.boot.now c.args.to.now (g.M.Machine.store c.args.machine.now) (g.M.Machine.store c.undertake.new.machine)
    c.in_ok-work.work c.in_ok-back.back (are g (goal.at.returns-clause-left g c).In_ok-work) c.undertake.ensures.left

-- what did nothing is an update without a move

pub returns-in_err-turned-clause-left : goal.returns-in_err-turned-clause-left
returns-in_err-turned-clause-left g c = (0, 0, refl)

pub returns-then-changes_nothing-clause-left : goal.returns-then-changes_nothing-clause-left
returns-then-changes_nothing-clause-left g c = (0, 0, refl)

pub returns-in_err-work-clause-left : goal.returns-in_err-work-clause-left
returns-in_err-work-clause-left g c = (0, 0, refl)

pub returns-in_err-back-clause-left : goal.returns-in_err-back-clause-left
returns-in_err-back-clause-left g c = (0, 0, refl)

pub returns-in_err-work-clause-failed_moves : goal.returns-in_err-work-clause-failed_moves
returns-in_err-work-clause-failed_moves g c =
    let p = err_from_is_err_and c.from_residual-in_err-work.result c.from_residual-in_err-work.ensures.1 in
    untouched (g.M.Machine.failures c.args.machine.now) c.from_residual-in_err-work.result (p.1 ∙ ap Err p.2)
