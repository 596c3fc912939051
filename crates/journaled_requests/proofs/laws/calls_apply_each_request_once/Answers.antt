-- The calls made some updates, whose turns apply each request once, and the machine stands for what these turns lead to.
use Rattle.std.proofs.Common.{sym, subst}
use Rattle.std.specs.List.{AllByRecursion}
use Rattle.uefi_vars.specs.Vars.{Variables}
use Rattle.journaled_requests.specs.Once.{run_of}
use Rattle.journaled_requests.specs.Requests.{KeepsState, IsOfAnother}
use Rattle.boot_journal.specs.Store.{stands_for}
use Rattle.journaled_requests.proofs.Calls.{all_stand, others_stay, run_of_turns}
use Rattle.journaled_requests.proofs.laws.calls_apply_each_request_once.Goals as goal

pub returns : goal.returns
returns c = λ w steps start none lead new others opens.
    let stand = all_stand (AllByRecursion IsOfAnother) others_stay c.each_change_is_needed.ensures c.keep_is_no_boot_name.ensures
    w none steps lead new others in
    let base = stands_for w.boot w.store in
    let run = run_of_turns base stand.told.now stand.now.updates stand.now.are stand.now.meddled in
    let applied = c.turns_apply_each_request_once.ensures base stand.told.now start (run_of stand.now.updates) opens run in (
      stand.now.updates,
      stand.now.by,
      applied.0,
      subst (λ (v : Variables). KeepsState v applied.0) (sym stand.fits.now) applied.1,
      applied.2,
    )
