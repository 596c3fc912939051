-- Where a cut comes as the journal is replaced, and then in `go_on` or in `take_back`, is where one comes in undertaking the work.
use Rattle.std.proofs.Common.{[]}
use Rattle.boot_journal.specs.Cause.{update_failures}
use Rattle.boot_journal.specs.Working.{IsUndertaking}
use Rattle.boot_journal.proofs.Errors.{taken_back_then}
use Rattle.boot_journal.proofs.Failures.{failed_then, then_taken_back}
use Rattle.boot_journal.proofs.Moments.{then, weaker}
use Rattle.boot_journal.proofs.Updates.{begun_undertakes, taking_undertakes, going_undertakes, taken_gives_up}
use Rattle.boot_journal.proofs.updating.undertake.Goals as goal

pub returns-in-Ok-clause-taken_back : goal.returns-in-Ok-clause-taken_back
returns-in-Ok-clause-taken_back g c =
    taken_back_then _ _ _ (taken_gives_up c.args.work.now c.args.back.now (g.M.Machine.store c.args.machine.now)
    (g.M.Machine.store c.replace_journal.new.self) (g.M.Machine.store c.go_on.new.machine) c.in-Ok.ensures.replaced) c.go_on.ensures.taken_back

pub returns-in-Ok-clause-left : goal.returns-in-Ok-clause-left
returns-in-Ok-clause-left g c =
    going_undertakes c.args.work.now c.args.back.now (g.M.Machine.store c.args.machine.now) (g.M.Machine.store c.replace_journal.new.self)
    (g.M.Machine.store c.go_on.new.machine) c.requires c.in-Ok.ensures.replaced c.go_on.ensures.left

pub returns-in-Ok-clause-moments : goal.returns-in-Ok-clause-moments
returns-in-Ok-clause-moments g c =
    let work = c.args.work.now in
    let back = c.args.back.now in
    let s = g.M.Machine.store c.args.machine.now in
    let P = IsUndertaking work back s in
    then P _ _ _ (weaker _ P _ _ (λ t. begun_undertakes work back s t) c.replace_journal.ensures.moments)
    (weaker _ P _ _ (λ t. going_undertakes work back s (g.M.Machine.store c.replace_journal.new.self) t c.requires c.in-Ok.ensures.replaced)
    c.go_on.ensures.moments)

pub returns-then-is_idle-clause-left : goal.returns-then-is_idle-clause-left
returns-then-is_idle-clause-left g c =
    begun_undertakes c.args.work.now c.args.back.now (g.M.Machine.store c.args.machine.now) (g.M.Machine.store c.replace_journal.new.self)
    c.replace_journal.ensures.whole

pub returns-then-is_idle-clause-moments : goal.returns-then-is_idle-clause-moments
returns-then-is_idle-clause-moments g c =
    weaker _ _ _ _ (λ t. begun_undertakes c.args.work.now c.args.back.now (g.M.Machine.store c.args.machine.now) t)
    c.replace_journal.ensures.moments

pub returns-else-is_idle-clause-left : goal.returns-else-is_idle-clause-left
returns-else-is_idle-clause-left g c =
    taking_undertakes c.args.work.now c.args.back.now (g.M.Machine.store c.args.machine.now) (g.M.Machine.store c.replace_journal.new.self)
    (g.M.Machine.store c.take_back.new.machine) c.replace_journal.ensures.whole c.take_back.ensures.amid

pub returns-else-is_idle-clause-moments : goal.returns-else-is_idle-clause-moments
returns-else-is_idle-clause-moments g c =
    let work = c.args.work.now in
    let back = c.args.back.now in
    let s = g.M.Machine.store c.args.machine.now in
    let P = IsUndertaking work back s in
    then P _ _ _ (weaker _ P _ _ (λ t. begun_undertakes work back s t) c.replace_journal.ensures.moments)
    (weaker _ P _ _ (λ t. taking_undertakes work back s (g.M.Machine.store c.replace_journal.new.self) t c.replace_journal.ensures.whole)
    c.take_back.ensures.moments)

pub returns-in-Ok-clause-failed_moves : goal.returns-in-Ok-clause-failed_moves
returns-in-Ok-clause-failed_moves g c =
    failed_then (g.M.Machine.failures c.args.machine.now) (g.M.Machine.failures c.replace_journal.new.self) (g.M.Machine.failures c.go_on.new.machine)
    [] (update_failures c.go_on.result) c.in-Ok.ensures.failed c.go_on.ensures.failed_moves

pub returns-then-is_idle-clause-failed_moves : goal.returns-then-is_idle-clause-failed_moves
returns-then-is_idle-clause-failed_moves g c = c.in-Err.ensures.failed

pub returns-else-is_idle-clause-failed_moves : goal.returns-else-is_idle-clause-failed_moves
returns-else-is_idle-clause-failed_moves g c =
    then_taken_back (g.M.Machine.failures c.args.machine.now) (g.M.Machine.failures c.replace_journal.new.self) (g.M.Machine.failures c.take_back.new.machine)
    c.in-Err.cause c.take_back.result c.in-Err.ensures.failed c.take_back.ensures.failed_moves c.take_back.ensures.cause
