use Rattle.uefi_vars.specs.AtRisk.{IsUnnamed, IsUndecodable}
use Rattle.uefi_vars.proofs.EntriesAtRisk.{one_list}
use Rattle.uefi_vars.proofs.laws.variables_have_one_list_of_entries_at_risk.Goals as goal

pub returns-clause-unnamed : goal.returns-clause-unnamed
returns-clause-unnamed c = λ vars. one_list (IsUnnamed vars)

pub returns-clause-undecodable : goal.returns-clause-undecodable
returns-clause-undecodable c = λ vars. one_list (IsUndecodable vars)
