-- The statuses that the program ends with if it did what it was asked to.
use Rattle.std.specs.Prelude.{ℕ}
use Rattle.var_commands.specs.declared.program.Ending.{Ending}
use Rattle.var_commands.specs.declared.program.Ending.TheVariants as ending

-- 1 if two places differ, or something is wrong with the first entry, 6 if not all requests were applied and carried out, 9 if
-- none was run, 10 if a trial failed, and 11 if it is too early to tell
abbrev pub ending_status : Ending → ℕ
ending_status ending.Done = 0
ending_status ending.Differs = 1
ending_status ending.Wrong = 1
ending_status ending.NotAll = 6
ending_status ending.Unmet = 9
ending_status ending.TrialFailed = 10
ending_status ending.TooEarly = 11
ending_status ending.Changed = 12
