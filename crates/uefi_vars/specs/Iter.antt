-- Going over variables.
use Rattle.std.specs.Prelude.{ℕ, List}
use Rattle.uefi_vars.specs.declared.vars.Iter.{Iter}
use Rattle.uefi_vars.specs.Records.{pairs_of}

-- the names that are still to come, with their data
abbrev pub variables_left : Iter → List (List ℕ × List ℕ)
variables_left s = pairs_of s.variables.now
