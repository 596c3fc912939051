-- Where a cut comes in `finish`, and then in `take_back`, is where one comes in going on.
use Rattle.std.proofs.Common.{sym, ◌∙◌}
use Rattle.boot_journal.specs.Working.{IsGoingOn}
use Rattle.boot_journal.proofs.Failures.{then_taken_back}
use Rattle.boot_journal.proofs.Moments.{then, weaker}
use Rattle.boot_journal.proofs.Settling.{making_going, carrying_going}
use Rattle.boot_journal.proofs.updating.go_on.Goals as goal

pub returns-in-Ok-clause-moments : goal.returns-in-Ok-clause-moments
returns-in-Ok-clause-moments g c =
    weaker _ _ _ _ (λ s. making_going c.args.work.now c.args.back.now (g.M.Machine.store c.args.machine.now) s c.deref.ensures.value)
    c.finish.ensures.moments

pub returns-then-is_making-clause-moments : goal.returns-then-is_making-clause-moments
returns-then-is_making-clause-moments g c =
    let work = c.args.work.now in
    let back = c.args.back.now in
    let s = g.M.Machine.store c.args.machine.now in
    let P = IsGoingOn work back s in
    then P _ _ _ (weaker _ P _ _ (λ t. making_going work back s t c.deref.ensures.value) c.finish.ensures.moments)
    (weaker _ P _ _ (λ t. carrying_going work back s (g.M.Machine.store c.finish.new.machine) t (sym c.is_making.ensures ∙ c.if-is_making.true)
    c.deref.ensures.value c.finish.ensures.amid) c.take_back.ensures.moments)

pub returns-else-is_making-clause-moments : goal.returns-else-is_making-clause-moments
returns-else-is_making-clause-moments g c =
    weaker _ _ _ _ (λ s. making_going c.args.work.now c.args.back.now (g.M.Machine.store c.args.machine.now) s c.deref.ensures.value)
    c.finish.ensures.moments

pub returns-in-Ok-clause-left : goal.returns-in-Ok-clause-left
returns-in-Ok-clause-left g c =
    making_going c.args.work.now c.args.back.now (g.M.Machine.store c.args.machine.now) (g.M.Machine.store c.finish.new.machine)
    c.deref.ensures.value c.finish.ensures.amid

pub returns-then-is_making-clause-left : goal.returns-then-is_making-clause-left
returns-then-is_making-clause-left g c =
    carrying_going c.args.work.now c.args.back.now (g.M.Machine.store c.args.machine.now) (g.M.Machine.store c.finish.new.machine)
    (g.M.Machine.store c.take_back.new.machine) (sym c.is_making.ensures ∙ c.if-is_making.true) c.deref.ensures.value c.finish.ensures.amid
    c.take_back.ensures.amid

pub returns-else-is_making-clause-left : goal.returns-else-is_making-clause-left
returns-else-is_making-clause-left g c =
    making_going c.args.work.now c.args.back.now (g.M.Machine.store c.args.machine.now) (g.M.Machine.store c.finish.new.machine)
    c.deref.ensures.value c.finish.ensures.amid

pub returns-then-is_making-clause-failed_moves : goal.returns-then-is_making-clause-failed_moves
returns-then-is_making-clause-failed_moves g c =
    then_taken_back (g.M.Machine.failures c.args.machine.now) (g.M.Machine.failures c.finish.new.machine) (g.M.Machine.failures c.take_back.new.machine)
    c.in-Err.cause c.take_back.result c.in-Err.ensures.failed_moves c.take_back.ensures.failed_moves c.take_back.ensures.cause

pub returns-else-is_making-clause-failed_moves : goal.returns-else-is_making-clause-failed_moves
returns-else-is_making-clause-failed_moves g c = c.in-Err.ensures.failed_moves
