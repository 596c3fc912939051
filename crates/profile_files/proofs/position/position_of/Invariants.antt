use Rattle.std.proofs.Common.{◌≡◌, ◌+◌, ◌≤◌, length, take}
use Rattle.profile_files.specs.Position.{after_bytes}
use Rattle.profile_files.proofs.position.position_of.Given as goal

abbrev pub invariant-bytes : goal.invariant-bytes
invariant-bytes l = record {
  so_far : after_bytes (take l.place l.text) (1, 1) ≡ after_bytes l.rest (l.line, l.column);
  few_lines : l.line + length l.rest ≤ length l.text + 1;
  few_columns : l.column + length l.rest ≤ length l.text + 1;
}

abbrev pub decreases-bytes : goal.decreases-bytes
decreases-bytes l = length l.rest
