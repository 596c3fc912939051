use Rattle.std.proofs.Common.{subst}
use Rattle.uefi_vars.specs.Vars.{IsVars}
use Rattle.uefi_vars.proofs.Maps.{IsVars-vars_of}
use Rattle.uefi_vars.proofs.vars.Vars.copy.Goals as goal

pub returns-in_err-copy_variables-clause-valid : goal.returns-in_err-copy_variables-clause-valid
returns-in_err-copy_variables-clause-valid c = subst IsVars c.self.view_is (IsVars-vars_of _ c.self.invariant)

pub returns-clause-valid : goal.returns-clause-valid
returns-clause-valid c = subst IsVars c.self.view_is (IsVars-vars_of _ c.self.invariant)
