use Rattle.std.specs.String.{string_bytes}
use Rattle.boot_requests.proofs.Answering.Lists.{AreLines}
use Rattle.boot_requests.proofs.answer.answer_lines.Given as goal

abbrev pub invariant-loop-event : goal.invariant-loop-event
invariant-loop-event l = AreLines l.fn.keeper l.events l.event-index l.now (string_bytes l.lines)
