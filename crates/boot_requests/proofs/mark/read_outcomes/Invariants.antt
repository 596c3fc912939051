use Rattle.std.proofs.Common.{◌≡◌, ◌++◌, length}
use Rattle.std.specs.List.{AllByRecursion, flat_map}
use Rattle.boot_requests.specs.Outcome.{IsOutcome, outcome_bytes}
use Rattle.boot_requests.proofs.mark.read_outcomes.Given as goal

abbrev pub invariant-loop-rest : goal.invariant-loop-rest
invariant-loop-rest l = record {
  valid : AllByRecursion IsOutcome l.kept.items;
  read : flat_map outcome_bytes l.kept.items ++ l.rest ≡ l.bytes;
}

abbrev pub decreases-loop-rest : goal.decreases-loop-rest
decreases-loop-rest l = length l.rest
