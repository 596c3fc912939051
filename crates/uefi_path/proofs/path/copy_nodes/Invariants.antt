use Rattle.std.proofs.Common.{◌≡◌, take}
use Rattle.std.specs.List.{AllByRecursion}
use Rattle.uefi_path.specs.Node.{IsNode}
use Rattle.uefi_path.proofs.path.copy_nodes.Given as goal

abbrev pub invariant-loop-node : goal.invariant-loop-node
invariant-loop-node l = record {
  copied : l.copies.items ≡ take l.node-index l.nodes;
  valid : AllByRecursion IsNode (take l.node-index l.nodes);
}
