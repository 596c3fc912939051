use Rattle.std.proofs.Common.{◌≡◌, ◌^◌, ◌<◌, ◌++◌, take, length}
use Rattle.uefi_vars.specs.Set.{magic, records_bytes}
use Rattle.uefi_vars.specs.Records.{pairs_of}
use Rattle.uefi_vars.proofs.writer.set_len.Given as goal

abbrev pub invariant-loop-variable : goal.invariant-loop-variable
invariant-loop-variable l = record {
  counted : l.len ≡ length (magic ++ records_bytes (pairs_of (take l.variable-index l.variables)));
  fits : l.len < 2 ^ 64;
}
