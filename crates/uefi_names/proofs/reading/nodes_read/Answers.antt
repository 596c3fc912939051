use Rattle.std.proofs.Common.{map, arith}
use Rattle.uefi_names.specs.Reading.{IsNamedSegment}
use Rattle.uefi_names.proofs.Finds.{one_more_read, all_read}
use Rattle.uefi_names.proofs.reading.nodes_read.Goals as goal

pub loop-segment-preserved : goal.loop-segment-preserved
loop-segment-preserved c = record {
  read = one_more_read (IsNamedSegment c.args.table.now) (map (λ text. text.now) c.args.segments.now) _ _ _ _ _ _ c.in-Some.ensures.some c.in_ok-push-in-Some-2.ensures.items (rw c.in-Some-2.is at c.in_ok-node.ensures) c.loop-segment.invariant.read;
  within = omega (arith, c.in-Some.ensures.within);
}

pub returns : goal.returns
returns c =
    all_read (IsNamedSegment c.args.table.now) (map (λ text. text.now) c.args.segments.now) _ _ c.in_default.ensures.none c.loop-segment.invariant.read
