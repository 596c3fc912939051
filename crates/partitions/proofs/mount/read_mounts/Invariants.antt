use Rattle.std.proofs.Common.{length}
use Rattle.partitions.proofs.Lines.{IsReading}
use Rattle.partitions.proofs.mount.read_mounts.Given as goal

abbrev pub invariant-loop-mounts : goal.invariant-loop-mounts
invariant-loop-mounts l = IsReading l.text l.rest l.mounts.items l.number

abbrev pub decreases-loop-mounts : goal.decreases-loop-mounts
decreases-loop-mounts l = length l.rest
