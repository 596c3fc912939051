-- The calls made some updates, over which the mark goes on, and the machine stands for what these turns lead to.
use Rattle.std.proofs.Common.{sym, subst}
use Rattle.uefi_vars.specs.Vars.{Variables}
use Rattle.boot_requests.specs.StoredState.{HasMark}
use Rattle.journaled_requests.proofs.Calls.{all_stand, anything}
use Rattle.journaled_requests.proofs.Once.{all_marked, all_once}
use Rattle.boot_journal.specs.Store.{stands_for}
use Rattle.journaled_requests.proofs.laws.calls_apply_each_number_once.Goals as goal

pub returns : goal.returns
returns c = λ w steps first none lead new has.
    let stand =
    all_stand (λ changes. Unit {0}) (λ over changes is. tt) c.each_change_is_needed.ensures c.keep_is_no_boot_name.ensures w none steps lead new
    (anything steps) in
    let marked =
    all_marked c.a_run_leads_to_a_state.ensures c.keep_is_no_boot_name.ensures
    (stands_for w.boot w.store) stand.told.now first stand.now.updates has stand.now.are in (
      stand.now.updates,
      stand.now.by,
      marked.last,
      subst (λ (m : Variables). HasMark m marked.last.next_number marked.last.kept) (sym stand.fits.now) marked.has,
      all_once first marked.last stand.now.updates marked.on,
    )
