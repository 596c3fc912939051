use Rattle.std.proofs.Common.{◌≡◌, ◌++◌, take}
use Rattle.uefi_vars.specs.Set.{records_bytes}
use Rattle.uefi_vars.specs.Records.{pairs_of}
use Rattle.uefi_vars.proofs.writer.append_variables.Given as goal

abbrev pub invariant-loop-variable : goal.invariant-loop-variable
invariant-loop-variable l = record {
  written : l.out.items ≡ l.fn.out.items ++ records_bytes (pairs_of (take l.variable-index l.variables));
}
