use Rattle.uefi_vars.proofs.EntriesAtRisk.{AreOfFirst}
use Rattle.boot_profiles.specs.Steps.{IsVariableOf}
use Rattle.boot_profiles.proofs.described.numbers_of.Given as goal

-- the numbers are those of the variables so far
abbrev pub invariant-loop-place : goal.invariant-loop-place
invariant-loop-place l = AreOfFirst (IsVariableOf l.description) l.vars l.place l.numbers.items
