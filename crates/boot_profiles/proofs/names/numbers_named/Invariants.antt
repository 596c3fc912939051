use Rattle.boot_profiles.proofs.Refusals.{NamesGoOn}
use Rattle.boot_profiles.proofs.names.numbers_named.Given as goal

-- the numbers are those of the names so far
abbrev pub invariant-loop-place : goal.invariant-loop-place
invariant-loop-place l = NamesGoOn l.vars l.names l.place l.numbers.items
