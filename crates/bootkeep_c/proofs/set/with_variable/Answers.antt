use Rattle.std.proofs.Common.{inr, refl, ap, ◌∙◌}
use Rattle.std.proofs.lemmas.Result.{err_from_is_err_and}
use Rattle.uefi_vars.specs.Set.{set_bytes}
use Rattle.bootkeep_c.specs.Refusals.{put_failure}
use Rattle.bootkeep_c.proofs.set.with_variable.Goals as goal

pub returns-in_err-put-clause-fault : goal.returns-in_err-put-clause-fault
returns-in_err-put-clause-fault c =
    let p = err_from_is_err_and c.from_residual-in_err-put.result c.from_residual-in_err-put.ensures.1 in
    let fault = c.in_err-put.field-0.0 in
    rw (p.1, p.2) (λ other. inr (c.in_ok-vars.vars, fault, c.in_ok-vars.ensures.found, c.in_err-put.ensures.fault (λ is. other (ap put_failure is)), refl))

pub returns-clause-found : goal.returns-clause-found
returns-clause-found c =
    (c.in_ok-vars.vars, c.in_ok-vars.ensures.found, c.in_ok-put.ensures.put.0, c.in_ok-write_set.ensures.written ∙ ap set_bytes c.in_ok-put.ensures.put.1)
