use Rattle.std.proofs.Common.{◌≡◌, ◌+◌, ◌<◌, ◌^◌, length, map, drop}
use Rattle.uefi_path.specs.Path.{path_bytes}
use Rattle.uefi_path.proofs.writer.path_len.Given as goal

abbrev pub invariant-loop-nodes : goal.invariant-loop-nodes
invariant-loop-nodes l = record {
  fits : l.len < 2 ^ 64;
  counted : l.len + length (path_bytes (map (λ nodes. nodes.items) (drop l.nodes-index l.nodes-items))) ≡ length (path_bytes l.path);
}
