use Rattle.std.proofs.Common.{◌≡◌, List, ℕ, ◌++◌, ap, ◌∙◌, arith}
use Rattle.std.proofs.lemmas.Result.{err_from_is_err_and}
use Rattle.uefi_vars.specs.declared.fault.VarFault.TheVariants as var
use Rattle.bootkeep_c.proofs.Failures.{vars_failed}
use Rattle.bootkeep_c.proofs.set.at_risk.Goals as goal

pub returns-clause-found : goal.returns-clause-found
returns-clause-found c =
    let risk = c.in_ok-risk in
    record {
      vars = c.in_ok-vars.vars;
      unnamed = risk.risk.unnamed.items;
      undecodable = risk.risk.undecodable.items;
      spelled = c.in_ok-vars.ensures.found;
      are = record {
        good_order = λ bad. let e = risk.ensures.bad_order.1 bad in cc;
        good_next = λ bad. let e = risk.ensures.bad_next.1 (λ order. let f = risk.ensures.bad_order.1 order in cc, bad) in cc;
        are_unnamed = risk.ensures.unnamed;
        are_undecodable = risk.ensures.undecodable;
      };
      numbers_are = c.in_ok-extend_from_slice.ensures.items ∙ ap (λ (others : List ℕ). risk.risk.unnamed.items ++ others) c.deref.ensures.value;
      count_is = omega (arith, c.len-unnamed.ensures);
    }

pub returns-in_err-risk-clause-fault : goal.returns-in_err-risk-clause-fault
returns-in_err-risk-clause-fault c =
    let p = err_from_is_err_and c.from_residual-in_err-risk.result c.from_residual-in_err-risk.ensures.1 in
    let fault = c.in_err-risk.field-0.0 in
    rw (p.1, p.2) (vars_failed c.args.set.now c.in_ok-vars.vars fault c.in_ok-vars.ensures.found
    (λ (is : fault ≡ var.BadOrder). c.in_err-risk.ensures.bad_order.0 cc)
    (λ (is : fault ≡ var.BadNext). c.in_err-risk.ensures.bad_next.0 cc))
