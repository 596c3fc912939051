use Rattle.std.proofs.Common.{sym, subst, inl, inr}
use Rattle.std.proofs.lemmas.Result.{IfOk-weaker, IfErr-weaker, err_from_is_err_and}
use Rattle.boot_edits.specs.Edit.{IsNewOrder}
use Rattle.boot_edits.specs.Lists.{AreFine, IsFirstFault}
use Rattle.boot_edits.proofs.Lists.{as_stale}
use Rattle.boot_edits.proofs.reorder.set_order.Goals as goal

pub returns-clause-done : goal.returns-clause-done
returns-clause-done c =
    let vars = c.args.vars.now in
    let new = c.args.new.now in
    let fine = as_stale (λ Is. AreFine Is new.entries.now) vars new.stale c.order_need.result c.order_need.ensures c.in_ok-check_each.ensures.fine in
    let is = subst (IsNewOrder vars new.only new.entries.now) (sym c.deref.ensures.value) c.in_ok-order.ensures in
    IfOk-weaker c.with_order.result _ _
    (λ to done. record { fine = fine; order = c.deref.result.now; is = is; fits = done.0; becomes = done.1 })
    c.with_order.ensures.done

pub returns-clause-refused : goal.returns-clause-refused
returns-clause-refused c =
    let vars = c.args.vars.now in
    let new = c.args.new.now in
    let fine = as_stale (λ Is. AreFine Is new.entries.now) vars new.stale c.order_need.result c.order_need.ensures c.in_ok-check_each.ensures.fine in
    let is = subst (IsNewOrder vars new.only new.entries.now) (sym c.deref.ensures.value) c.in_ok-order.ensures in
    IfErr-weaker c.with_order.result _ _ (λ fault long told. let l = long told in inr (fine, l.0, (c.deref.result.now, is, l.1))) c.with_order.ensures.refused

pub returns-in_err-check_each-clause-refused : goal.returns-in_err-check_each-clause-refused
returns-in_err-check_each-clause-refused c =
    let vars = c.args.vars.now in
    let new = c.args.new.now in
    let p = err_from_is_err_and c.from_residual.result c.from_residual.ensures.1 in
    rw (p.1, p.2) (λ told.
    inl (as_stale (λ Is. IsFirstFault Is new.entries.now c.in_err-check_each.field-0.0) vars new.stale c.order_need.result
    c.order_need.ensures (c.in_err-check_each.ensures.refused told)))
