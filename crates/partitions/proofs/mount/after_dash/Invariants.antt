use Rattle.std.proofs.Common.{◌≡◌, length}
use Rattle.partitions.specs.Mount.{after_dash}
use Rattle.partitions.proofs.mount.after_dash.Given as goal

abbrev pub invariant-loop-rest : goal.invariant-loop-rest
invariant-loop-rest l = after_dash l.rest ≡ after_dash l.text

abbrev pub decreases-loop-rest : goal.decreases-loop-rest
decreases-loop-rest l = length l.rest
