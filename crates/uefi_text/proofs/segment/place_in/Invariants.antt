use Rattle.std.proofs.Common.{◌≤◌, length}
use Rattle.uefi_text.proofs.segment.place_in.Given as goal

abbrev pub invariant-passed : goal.invariant-passed
invariant-passed l = length l.rest ≤ length l.inside
