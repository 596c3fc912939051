use Rattle.std.proofs.Common.{◌≡◌, length}
use Rattle.partitions.specs.Uevent.{value_of}
use Rattle.partitions.proofs.uevent.uevent_value.Given as goal

abbrev pub invariant-loop-value : goal.invariant-loop-value
invariant-loop-value l = value_of l.rest l.key ≡ value_of l.text l.key

abbrev pub decreases-loop-value : goal.decreases-loop-value
decreases-loop-value l = length l.rest
