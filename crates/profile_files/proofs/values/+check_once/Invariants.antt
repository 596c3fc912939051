use Rattle.std.proofs.Common.{length}
use Rattle.profile_files.proofs.values.+check_once.Given as goal

abbrev pub decreases-check_once : goal.decreases-check_once
decreases-check_once l = length l.members.now
