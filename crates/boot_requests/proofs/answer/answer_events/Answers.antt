use Rattle.boot_requests.proofs.Answering.Lists.{none_taken, taken_more, all_taken}
use Rattle.boot_requests.proofs.answer.answer_events.Goals as goal

pub loop-event-init : goal.loop-event-init
loop-event-init c = none_taken c.args.keeper c.args.events.now _ c.new-answers.ensures.items

pub loop-event-preserved : goal.loop-event-preserved
loop-event-preserved c =
    let loop = c.loop-event in
    rw c.in_ok-push.ensures.items
    (taken_more c.args.keeper loop.now c.answer_event.new.keeper c.args.events.now c.event-item.result loop.event-index loop.answers.items
    c.in_ok-answer.answer loop.invariant
    c.loop-event-test.true c.event-item.is c.in_ok-answer.ensures)

pub returns-clause-answered : goal.returns-clause-answered
returns-clause-answered c =
    let loop = c.loop-event in
    all_taken c.each_event_is_seen.ensures c.args.keeper loop.now c.args.events.now loop.event-index loop.answers.items loop.invariant c.loop-event-test.false
    c.look_at_each.ensures
