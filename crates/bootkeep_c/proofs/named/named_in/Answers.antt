use Rattle.std.proofs.Common.{◌≡◌, ℕ, List, subst}
use Rattle.std.proofs.lemmas.Result.{err_from_is_err_and}
use Rattle.uefi_vars.specs.declared.fault.VarFault.TheVariants as var
use Rattle.uefi_vars.specs.Vars.{entry_of}
use Rattle.bootkeep_c.specs.Named.{AreNamed}
use Rattle.bootkeep_c.proofs.Failures.{vars_failed}
use Rattle.bootkeep_c.proofs.named.named_in.Goals as goal

pub returns-in_err-order-clause-fault : goal.returns-in_err-order-clause-fault
returns-in_err-order-clause-fault c =
    let p = err_from_is_err_and c.from_residual-in_err-order.result c.from_residual-in_err-order.ensures.1 in
    let fault = c.in_err-order.field-0.0 in
    rw (p.1, p.2) (vars_failed c.args.set.now c.in_ok-vars.vars fault c.in_ok-vars.ensures.found
    (λ (is : fault ≡ var.BadOrder). c.in_err-order.ensures.bad_order.0 cc)
    (λ (is : fault ≡ var.BadNext). absurd (c.in_err-order.ensures.named is)))

pub returns-in_err-next-clause-fault : goal.returns-in_err-next-clause-fault
returns-in_err-next-clause-fault c =
    let p = err_from_is_err_and c.from_residual-in_err-next.result c.from_residual-in_err-next.ensures.1 in
    let fault = c.in_err-next.field-0.0 in
    let named : fault ≡ var.BadNext = c.in_err-next.ensures.named in
    rw (p.1, p.2) (vars_failed c.args.set.now c.in_ok-vars.vars fault c.in_ok-vars.ensures.found
    (λ (is : fault ≡ var.BadOrder). absurd cc)
    (λ (is : fault ≡ var.BadNext). (
      λ bad. c.a_bad_order_gives_no_order.ensures c.in_ok-vars.vars c.in_ok-order.order.items bad c.in_ok-order.ensures.found,
      c.in_err-next.ensures.bad_next.0 cc,
    )))

pub returns-clause-found : goal.returns-clause-found
returns-clause-found c = (
  c.in_ok-vars.vars,
  c.in_ok-next.next,
  c.in_ok-order.order.items,
  c.in_ok-vars.ensures.found,
  c.in_ok-next.ensures.found,
  c.in_ok-order.ensures.found,
  subst (λ (order : List ℕ). AreNamed (entry_of c.in_ok-vars.vars) c.in_ok-next.next order c.in_ok-named_by.field-0.items)
      c.deref.ensures.value c.in_ok-named_by.ensures,
)
