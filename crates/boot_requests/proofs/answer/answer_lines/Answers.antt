use Rattle.std.specs.String.{string_bytes}
use Rattle.boot_requests.proofs.Answering.Lists.{no_lines, lines_more, all_lines}
use Rattle.boot_requests.proofs.answer.answer_lines.Goals as goal

pub loop-event-init : goal.loop-event-init
loop-event-init c = no_lines c.args.keeper c.args.events.now _ c.new-lines.ensures.bytes

pub loop-event-preserved : goal.loop-event-preserved
loop-event-preserved c =
    let loop = c.loop-event in
    lines_more c.args.keeper loop.now c.next_reply.new.keeper c.args.events.now c.event-item.result loop.event-index (string_bytes loop.lines)
    (string_bytes c.append_reply_line.new.lines)
    c.in_ok-reply.reply loop.invariant c.loop-event-test.true c.event-item.is c.in_ok-reply.ensures.turn c.in_ok-append_reply_line.ensures.line

pub returns-clause-answered : goal.returns-clause-answered
returns-clause-answered c =
    let loop = c.loop-event in
    all_lines c.each_event_is_seen.ensures c.args.keeper loop.now c.args.events.now loop.event-index (string_bytes loop.lines) loop.invariant
    c.loop-event-test.false c.look_at_each.ensures
