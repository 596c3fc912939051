-- The mark goes on from update to update, and the machine stands for what the turns that happened lead to.
use Rattle.std.proofs.Common.{sym, subst}
use Rattle.uefi_vars.specs.Vars.{Variables}
use Rattle.boot_requests.specs.StoredState.{HasMark}
use Rattle.journaled_requests.proofs.Once.{all_marked, all_once}
use Rattle.boot_journal.proofs.Whole.{all_whole}
use Rattle.boot_journal.specs.Store.{stands_for}
use Rattle.boot_journal.specs.Turns.{happened}
use Rattle.journaled_requests.proofs.laws.each_number_is_applied_once_whatever_firmware_does.Goals as goal

pub returns : goal.returns
returns c = λ w events first updates none new has are.
    let marked =
    all_marked c.a_run_leads_to_a_state.ensures c.keep_is_no_boot_name.ensures (stands_for w.boot w.store) (happened w events) first updates has are in
    let whole = all_whole c.each_change_is_needed.ensures c.keep_is_no_boot_name.ensures w events none new in (
      marked.last,
      subst (λ (v : Variables). HasMark v marked.last.next_number marked.last.kept) (sym whole) marked.has,
      all_once first marked.last updates marked.on,
    )
