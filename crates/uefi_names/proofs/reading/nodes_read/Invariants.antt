use Rattle.std.proofs.Common.{◌≤◌, ◌-◌, length, map, drop}
use Rattle.uefi_names.specs.Reading.{IsNamedSegment}
use Rattle.uefi_names.proofs.Finds.{IsReadTo}
use Rattle.uefi_names.proofs.reading.nodes_read.Given as goal

abbrev pub invariant-loop-segment : goal.invariant-loop-segment
invariant-loop-segment l = record {
  read : IsReadTo (IsNamedSegment l.table) (map (λ text. text.now) l.segments) (drop l.index (map (λ text. text.now) l.segments)) l.nodes.items;
  within : l.index ≤ length l.segments;
}

abbrev pub decreases-loop-segment : goal.decreases-loop-segment
decreases-loop-segment l = length l.segments - l.index
