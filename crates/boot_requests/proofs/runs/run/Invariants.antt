use Rattle.boot_requests.proofs.Turn.Sequences.{Ran}
use Rattle.boot_requests.proofs.runs.run.Given as goal

abbrev pub invariant-loop-event : goal.invariant-loop-event
invariant-loop-event l = Ran l.fn.keeper l.events l.fn.replies.items l.event-index l.now l.replies.items
