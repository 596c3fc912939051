use Rattle.boot_requests.proofs.Answering.Lists.{AreTaken}
use Rattle.boot_requests.proofs.answer.answer_events.Given as goal

abbrev pub invariant-loop-event : goal.invariant-loop-event
invariant-loop-event l = AreTaken l.fn.keeper l.events l.event-index l.now l.answers.items
