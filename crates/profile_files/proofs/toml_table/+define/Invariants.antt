use Rattle.std.proofs.Common.{◌+◌, length}
use Rattle.profile_files.proofs.toml_table.+define.Given as goal

abbrev pub decreases-define : goal.decreases-define
decreases-define l = length l.path.now + length l.dots.now
