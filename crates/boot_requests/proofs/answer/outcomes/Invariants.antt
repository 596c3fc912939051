use Rattle.boot_requests.specs.Followers.{AreOutcomes}
use Rattle.boot_requests.proofs.answer.outcomes.Given as goal

abbrev pub invariant-loop-number : goal.invariant-loop-number
invariant-loop-number l = AreOutcomes l.keeper.state l.first l.number l.outcomes.items
