use Rattle.std.proofs.Common.{ap, ◌∙◌}
use Rattle.std.specs.FinMap.{from_sorted, insert}
use Rattle.uefi_vars.proofs.Maps.{IsVars-vars_of, from_sorted-put}
use Rattle.uefi_vars.proofs.vars.Vars.put.Goals as goal

pub returns-in_err-check_variable-clause-valid : goal.returns-in_err-check_variable-clause-valid
returns-in_err-check_variable-clause-valid c = IsVars-vars_of _ c.self.invariant

pub returns-in_err-value-clause-valid : goal.returns-in_err-value-clause-valid
returns-in_err-value-clause-valid c = IsVars-vars_of _ c.self.invariant

pub returns-in_err-store-clause-valid : goal.returns-in_err-store-clause-valid
returns-in_err-store-clause-valid c = IsVars-vars_of _ c.store.ensures.held

pub returns-clause-put : goal.returns-clause-put
returns-clause-put c =
    let name = c.args.name.now in
    ap from_sorted c.in_ok-store.ensures.stored ∙ from_sorted-put _ c.self.invariant name _
    ∙ (λ i. insert (c.self.view_is i) name (c.in_ok-value.ensures.items i))

pub returns-clause-valid : goal.returns-clause-valid
returns-clause-valid c = IsVars-vars_of _ c.store.ensures.held
