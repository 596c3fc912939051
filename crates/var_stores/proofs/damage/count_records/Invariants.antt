use Rattle.std.proofs.Common.{◌+◌, ◌≤◌, length}
use Rattle.var_stores.proofs.Counts.{LeadsTo}
use Rattle.var_stores.proofs.damage.count_records.Given as goal

-- those so far, with those that are still to come
abbrev pub invariant-loop-rest : goal.invariant-loop-rest
invariant-loop-rest l = record {
  room : l.count + length l.rest ≤ length l.bytes;
  leads : LeadsTo l.bytes l.rest l.count;
}

abbrev pub decreases-loop-rest : goal.decreases-loop-rest
decreases-loop-rest l = length l.rest
