use Rattle.std.proofs.Common.{refl}
use Rattle.std.proofs.lemmas.Result.{err_from_is_err_and}
use Rattle.bootkeep_c.proofs.store.kept_of.Goals as goal

pub returns-in_err-with_attributes-clause-fault : goal.returns-in_err-with_attributes-clause-fault
returns-in_err-with_attributes-clause-fault c =
    let p = err_from_is_err_and c.from_residual-in_err-with_attributes.result c.from_residual-in_err-with_attributes.ensures.1 in
    rw (p.1, p.2) (λ other. record {
      vars = c.in_ok-vars.vars;
      vars_are = c.in_ok-vars.ensures c.requires;
      why = c.in_err-with_attributes.field-0.0;
      has = c.in_err-with_attributes.ensures.fault;
      is = refl;
    })
