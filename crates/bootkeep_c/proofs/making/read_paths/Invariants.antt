use Rattle.std.proofs.Common.{length}
use Rattle.uefi_option.proofs.Lists.{HasPaths}
use Rattle.bootkeep_c.proofs.making.read_paths.Given as goal

abbrev pub invariant-loop-rest : goal.invariant-loop-rest
invariant-loop-rest l = HasPaths l.list l.paths.items l.rest

abbrev pub decreases-loop-rest : goal.decreases-loop-rest
decreases-loop-rest l = length l.rest
