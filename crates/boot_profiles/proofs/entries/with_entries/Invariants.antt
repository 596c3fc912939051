use Rattle.boot_profiles.proofs.Refusals.{GoesOn}
use Rattle.boot_profiles.proofs.entries.with_entries.Given as goal

-- what is left to do goes on with what was done
abbrev pub invariant-loop-place : goal.invariant-loop-place
invariant-loop-place l = GoesOn l.entries l.vars l.place l.now
