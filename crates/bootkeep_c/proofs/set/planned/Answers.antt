use Rattle.std.proofs.Common.{◌≡◌}
use Rattle.std.proofs.lemmas.Result.{err_from_is_err_and}
use Rattle.uefi_vars.specs.declared.fault.VarFault.TheVariants as var
use Rattle.bootkeep_c.proofs.Failures.{vars_failed}
use Rattle.bootkeep_c.proofs.set.planned.Goals as goal

pub returns-in_err-numbers-clause-fault : goal.returns-in_err-numbers-clause-fault
returns-in_err-numbers-clause-fault c =
    let p = err_from_is_err_and c.from_residual-in_err-numbers.result c.from_residual-in_err-numbers.ensures.1 in
    let fault = c.in_err-numbers.field-0.0 in
    rw (p.1, p.2) (vars_failed c.args.set.now c.in_ok-vars.vars fault c.in_ok-vars.ensures.found
    (λ (is : fault ≡ var.BadOrder). c.in_err-numbers.ensures.bad_order.0 cc)
    (λ (is : fault ≡ var.BadNext). c.in_err-numbers.ensures.bad_next.0 cc))
