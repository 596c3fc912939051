use Rattle.std.proofs.Common.{ℕ, ◌<◌, IsSome}
use Rattle.uefi_vars.specs.Vars.{entry_of}
use Rattle.uefi_vars.specs.Order.{IsEntryNumber}
use Rattle.uefi_vars.proofs.LowestFree.{IsPassed}
use Rattle.uefi_vars.proofs.free.lowest_free.Given as goal

abbrev pub invariant-loop-variable : goal.invariant-loop-variable
invariant-loop-variable l = record {
  is : IsEntryNumber l.free;
  taken : (lower : ℕ) → lower < l.free → IsSome (entry_of l.vars lower);
  passed : IsPassed l.vars l.variable-index l.free;
}
