use Rattle.std.proofs.Common.{◌≡◌, ◌++◌, take}
use Rattle.std.specs.List.{flat_map, AllByRecursion}
use Rattle.uefi_path.specs.Node.{node_bytes, IsNode}
use Rattle.uefi_path.proofs.writer.append_nodes.Given as goal

abbrev pub invariant-loop-node : goal.invariant-loop-node
invariant-loop-node l = record {
  written : l.out.items ≡ l.fn.out.items ++ flat_map node_bytes (take l.node-index l.nodes);
  valid : AllByRecursion IsNode (take l.node-index l.nodes);
}
