-- The turns that happened apply each request once, and what the machine stands for is what these turns lead to.
use Rattle.std.proofs.Common.{sym, subst}
use Rattle.uefi_vars.specs.Vars.{Variables}
use Rattle.journaled_requests.specs.Requests.{KeepsState}
use Rattle.boot_journal.specs.Store.{stands_for}
use Rattle.boot_journal.specs.Turns.{happened}
use Rattle.boot_journal.proofs.Whole.{all_whole}
use Rattle.journaled_requests.proofs.laws.each_request_is_applied_once.Goals as goal

pub returns : goal.returns
returns c = λ w events start run none new opens is.
    let applied = c.turns_apply_each_request_once.ensures (stands_for w.boot w.store) (happened w events) start run opens is in
    let whole = all_whole c.each_change_is_needed.ensures c.keep_is_no_boot_name.ensures w events none new in
    (applied.0, subst (λ (v : Variables). KeepsState v applied.0) (sym whole) applied.1, applied.2)
