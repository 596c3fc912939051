use Rattle.uefi_vars.specs.RiskOfVariable.{IsUnnamedEntry, IsUndecodableEntry}
use Rattle.uefi_vars.proofs.EntriesAtRisk.{AreOfFirst}
use Rattle.uefi_vars.proofs.at_risk.numbers_at_risk.Given as goal

abbrev pub invariant-loop-variable : goal.invariant-loop-variable
invariant-loop-variable l = record {
  unnamed : AreOfFirst (IsUnnamedEntry l.named l.next) l.vars l.variable-index l.unnamed.items;
  undecodable : AreOfFirst (IsUndecodableEntry l.named) l.vars l.variable-index l.undecodable.items;
}
