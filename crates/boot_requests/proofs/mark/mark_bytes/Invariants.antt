use Rattle.std.proofs.Common.{◌≡◌, ◌∷◌, [], ◌++◌, length, take}
use Rattle.std.specs.Int.{w32, to_le_bytes}
use Rattle.std.specs.List.{flat_map}
use Rattle.boot_requests.specs.Outcome.{outcome_bytes}
use Rattle.boot_requests.proofs.mark.mark_bytes.Given as goal

abbrev pub invariant-loop-outcome : goal.invariant-loop-outcome
invariant-loop-outcome l = record {
  written : l.bytes.items ≡ (2 ∷ []) ++ to_le_bytes w32 l.next_number ++ (length l.kept ∷ flat_map outcome_bytes (take l.outcome-index l.kept));
}
