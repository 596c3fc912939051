-- Where a cut comes as the changes are made, and as the journal is replaced then.
use Rattle.boot_journal.specs.Moves.{IsMaking}
use Rattle.boot_journal.proofs.Moments.{then, weaker}
use Rattle.boot_journal.proofs.Moves.{front_is_making, made_is_making}
use Rattle.boot_journal.proofs.updating.finish.Goals as goal

pub returns-in_err-make_all-clause-amid : goal.returns-in_err-make_all-clause-amid
returns-in_err-make_all-clause-amid g c = front_is_making _ _ _ _ c.in_err-make_all.ensures.failed

pub returns-in_err-make_all-clause-moments : goal.returns-in_err-make_all-clause-moments
returns-in_err-make_all-clause-moments g c = weaker _ _ _ _ (λ s. front_is_making _ _ _ s) c.make_all.ensures.moments

pub returns-clause-amid : goal.returns-clause-amid
returns-clause-amid g c = made_is_making c.args.changes.now c.args.last.now _ _ _ c.in_ok-make_all.ensures.done c.replace_journal.ensures.whole

pub returns-clause-moments : goal.returns-clause-moments
returns-clause-moments g c =
    let P = IsMaking c.args.changes.now c.args.last.now (g.M.Machine.store c.args.machine.now) in
    then P _ _ _ (weaker _ P _ _ (λ s. front_is_making _ _ _ s) c.make_all.ensures.moments)
    (weaker _ P _ _ (λ s r. made_is_making c.args.changes.now c.args.last.now _ _ s c.in_ok-make_all.ensures.done r) c.replace_journal.ensures.moments)
