-- The journal is replaced and the changes are made, or the journal isn't replaced.
use Rattle.boot_journal.specs.Moves.{IsCarrying}
use Rattle.boot_journal.proofs.Moments.{then, weaker}
use Rattle.boot_journal.proofs.Moves.{carrying_made, carrying_begun}
use Rattle.boot_journal.proofs.updating.carry_out.Goals as goal

pub returns-clause-amid : goal.returns-clause-amid
returns-clause-amid g c =
    carrying_made c.args.work.now.journal c.args.work.now.due.items c.args.work.now.last _ _ _ c.in_ok-replace_journal.ensures.replaced
    c.deref.ensures.value c.finish.ensures.amid

pub returns-clause-moments : goal.returns-clause-moments
returns-clause-moments g c =
    let work = c.args.work.now in
    let s = g.M.Machine.store c.args.machine.now in
    let P = IsCarrying work.journal work.due.items work.last s in
    then P _ _ _ (weaker _ P _ _ (λ t r. carrying_begun work.journal work.due.items work.last s t r) c.replace_journal.ensures.moments)
    (weaker _ P _ _ (λ t. carrying_made work.journal work.due.items work.last s (g.M.Machine.store c.replace_journal.new.self) t
    c.in_ok-replace_journal.ensures.replaced c.deref.ensures.value) c.finish.ensures.moments)

pub returns-in_err-replace_journal-clause-moments : goal.returns-in_err-replace_journal-clause-moments
returns-in_err-replace_journal-clause-moments g c =
    let work = c.args.work.now in
    weaker _ _ _ _ (λ t r. carrying_begun work.journal work.due.items work.last (g.M.Machine.store c.args.machine.now) t r)
    c.replace_journal.ensures.moments
