use Rattle.std.proofs.Common.{◌≡◌, length}
use Rattle.profile_files.specs.Syntax.{begins_with_brace}
use Rattle.profile_files.proofs.reading.is_json.Given as goal

abbrev pub invariant-bytes : goal.invariant-bytes
invariant-bytes l = begins_with_brace l.bytes ≡ begins_with_brace l.rest

abbrev pub decreases-bytes : goal.decreases-bytes
decreases-bytes l = length l.rest
