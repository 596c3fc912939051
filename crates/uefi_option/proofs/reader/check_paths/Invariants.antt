use Rattle.std.proofs.Common.{List, length}
use Rattle.uefi_option.proofs.Lists.{Path, HasPaths}
use Rattle.uefi_option.proofs.reader.check_paths.Given as goal

abbrev pub invariant-loop-rest : goal.invariant-loop-rest
invariant-loop-rest l = (paths : List Path) × HasPaths l.list paths l.rest

abbrev pub decreases-loop-rest : goal.decreases-loop-rest
decreases-loop-rest l = length l.rest
