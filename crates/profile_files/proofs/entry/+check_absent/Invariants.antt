use Rattle.std.proofs.Common.{length}
use Rattle.profile_files.proofs.entry.+check_absent.Given as goal

abbrev pub decreases-check_absent : goal.decreases-check_absent
decreases-check_absent l = length l.members.now
