use Rattle.std.proofs.Common.{length}
use Rattle.uefi_vars.specs.Records.{pairs_of, IsRising, FindsAllFrom}
use Rattle.uefi_vars.proofs.named.seek.Given as goal

abbrev pub invariant-loop-first : goal.invariant-loop-first
invariant-loop-first g l = record {
  rising : IsRising (pairs_of l.left);
  left : FindsAllFrom l.name (pairs_of l.items) (pairs_of l.left);
}

abbrev pub decreases-loop-first : goal.decreases-loop-first
decreases-loop-first g l = length l.left
