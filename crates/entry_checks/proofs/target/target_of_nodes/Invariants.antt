use Rattle.std.proofs.Common.{◌≡◌, length}
use Rattle.entry_checks.specs.Target.{target_from, target_of_nodes}
use Rattle.entry_checks.proofs.target.target_of_nodes.Given as goal

abbrev pub invariant-loop-rest : goal.invariant-loop-rest
invariant-loop-rest l = target_from l.nodes l.rest ≡ target_of_nodes l.nodes

abbrev pub decreases-loop-rest : goal.decreases-loop-rest
decreases-loop-rest l = length l.rest
