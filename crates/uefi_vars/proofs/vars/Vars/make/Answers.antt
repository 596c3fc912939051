use Rattle.uefi_vars.proofs.Maps.{IsVars-vars_of}
use Rattle.uefi_vars.proofs.vars.Vars.make.Goals as goal

pub returns-clause-valid : goal.returns-clause-valid
returns-clause-valid c = IsVars-vars_of _ c.make_each.ensures.held
