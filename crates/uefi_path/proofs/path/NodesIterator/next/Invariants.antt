use Rattle.std.proofs.Common.{◌≡◌, length}
use Rattle.uefi_path.specs.Nodes.{nodes_left}
use Rattle.uefi_path.proofs.path.NodesIterator.next.Given as goal

abbrev pub invariant-loop-node : goal.invariant-loop-node
invariant-loop-node l = nodes_left l.self ≡ nodes_left l.initial.self

abbrev pub decreases-loop-node : goal.decreases-loop-node
decreases-loop-node l = length l.self.others.now
