use Rattle.std.proofs.Common.{length}
use Rattle.uefi_path.proofs.Rowed.{HasRows}
use Rattle.uefi_path.proofs.reader.find_end.Given as goal

abbrev pub invariant-loop-node : goal.invariant-loop-node
invariant-loop-node l = HasRows l.bytes l.rest

abbrev pub decreases-loop-node : goal.decreases-loop-node
decreases-loop-node l = length l.rest
