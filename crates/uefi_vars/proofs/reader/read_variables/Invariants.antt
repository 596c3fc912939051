use Rattle.std.proofs.Common.{length, drop}
use Rattle.uefi_vars.specs.Records.{pairs_of}
use Rattle.uefi_vars.specs.Reader.{HasRecords}
use Rattle.uefi_vars.proofs.reader.read_variables.Given as goal

abbrev pub invariant-loop-bytes : goal.invariant-loop-bytes
invariant-loop-bytes l = HasRecords (drop l.start l.bytes) (pairs_of l.variables.items) l.rest

abbrev pub decreases-loop-bytes : goal.decreases-loop-bytes
decreases-loop-bytes l = length l.rest
