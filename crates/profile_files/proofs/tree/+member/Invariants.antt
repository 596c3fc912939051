use Rattle.std.proofs.Common.{length}
use Rattle.profile_files.proofs.tree.+member.Given as goal

abbrev pub decreases-member : goal.decreases-member
decreases-member l = length l.members.now
