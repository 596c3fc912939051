use Rattle.std.proofs.Common.{length}
use Rattle.uefi_option.proofs.Units.{HasUnits}
use Rattle.uefi_option.proofs.reader.split_units.Given as goal

abbrev pub invariant-loop-rest : goal.invariant-loop-rest
invariant-loop-rest l = HasUnits l.bytes l.rest

abbrev pub decreases-loop-rest : goal.decreases-loop-rest
decreases-loop-rest l = length l.rest
