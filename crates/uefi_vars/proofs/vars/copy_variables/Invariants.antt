use Rattle.std.proofs.Common.{◌≡◌, take}
use Rattle.uefi_vars.specs.Records.{pairs_of}
use Rattle.uefi_vars.proofs.vars.copy_variables.Given as goal

abbrev pub invariant-loop-variable : goal.invariant-loop-variable
invariant-loop-variable l = pairs_of l.copies.items ≡ pairs_of (take l.variable-index l.variables)
