use Rattle.std.proofs.Common.{inr, ◌∙◌}
use Rattle.std.proofs.lemmas.Result.{err_from_is_err_and}
use Rattle.bootkeep_c.proofs.keeper.boxed.Goals as goal

pub returns-in_err-keeper-clause-fault : goal.returns-in_err-keeper-clause-fault
returns-in_err-keeper-clause-fault c =
    let p = err_from_is_err_and c.from_residual-in_err-keeper.result c.from_residual-in_err-keeper.ensures.1 in
    rw (p.1, p.2) (λ other. inr (c.in_ok-vars.vars, c.in_ok-vars.ensures.found, c.in_err-keeper.ensures.fault other))

pub returns-clause-found : goal.returns-clause-found
returns-clause-found c =
    let opened = c.in_ok-keeper.ensures.opened in
    (c.in_ok-vars.vars, c.in_ok-keeper.keeper.state, c.in_ok-vars.ensures.found, opened.1, c.in_ok-new.ensures.ok ∙ opened.0)
