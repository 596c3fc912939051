-- Each event that is taken is one more turn after those before it.
use Rattle.std.proofs.Common.{arith}
use Rattle.boot_requests.proofs.Turn.Sequences.{ran_more, ran_same, ran_turns, ran_run}
use Rattle.boot_requests.proofs.runs.run.Goals as goal

pub returns-in_default-clause-turns : goal.returns-in_default-clause-turns
returns-in_default-clause-turns c =
    let same = c.in_default.ensures.refused in
    ran_turns c.args.keeper c.args.events.now c.args.replies.now.items c.loop-event.event-index c.take_event.new.keeper c.take_event.new.replies.items
    (ran_same _ _ _ _ _ _ _ _ c.loop-event.invariant same.1 same.0)

pub returns-in_default-clause-run : goal.returns-in_default-clause-run
returns-in_default-clause-run c =
    let same = c.in_default.ensures.refused in
    ran_run c.args.keeper c.args.events.now c.args.replies.now.items c.loop-event.event-index c.take_event.new.keeper c.take_event.new.replies.items
    (ran_same _ _ _ _ _ _ _ _ c.loop-event.invariant same.1 same.0)

pub loop-event-preserved : goal.loop-event-preserved
loop-event-preserved c =
    let taken = c.in-Ok.ensures.taken in
    ran_more c.args.keeper c.loop-event.now c.take_event.new.keeper c.args.events.now c.event-item.result c.args.replies.now.items c.loop-event.replies.items
    c.take_event.new.replies.items taken.0 c.loop-event.event-index
    c.loop-event.invariant (omega arith) c.event-item.is taken.1 taken.2

pub returns-clause-turns : goal.returns-clause-turns
returns-clause-turns c =
    ran_turns c.args.keeper c.args.events.now c.args.replies.now.items c.loop-event.event-index c.loop-event.now c.loop-event.replies.items
    c.loop-event.invariant

pub returns-clause-run : goal.returns-clause-run
returns-clause-run c =
    ran_run c.args.keeper c.args.events.now c.args.replies.now.items c.loop-event.event-index c.loop-event.now c.loop-event.replies.items c.loop-event.invariant
