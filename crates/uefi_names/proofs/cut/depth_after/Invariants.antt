use Rattle.std.proofs.Common.{◌≡◌, ◌≤◌, drop}
use Rattle.uefi_names.specs.Cut.{depth_after}
use Rattle.uefi_names.proofs.cut.depth_after.Given as goal

abbrev pub invariant-loop-byte : goal.invariant-loop-byte
invariant-loop-byte l = record {
  same : depth_after l.depth (drop l.byte-index l.text) ≡ depth_after 0 l.text;
  low : l.depth ≤ l.byte-index;
}
