use Rattle.std.proofs.Common.{◌≡◌, ◌+◌, ◌<◌, ◌^◌, length, drop}
use Rattle.std.specs.List.{flat_map}
use Rattle.uefi_path.specs.Node.{node_bytes}
use Rattle.uefi_path.proofs.writer.nodes_len.Given as goal

abbrev pub invariant-loop-node : goal.invariant-loop-node
invariant-loop-node l = record {
  fits : l.len < 2 ^ 64;
  counted : l.len + length (flat_map node_bytes (drop l.node-index l.nodes)) ≡ length (flat_map node_bytes l.nodes);
}
