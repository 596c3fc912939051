use Rattle.std.proofs.Common.{length}
use Rattle.disk_files.proofs.disk_place.push_functions.Given as goal

abbrev pub decreases-loop-behind : goal.decreases-loop-behind
decreases-loop-behind l = length l.behind
