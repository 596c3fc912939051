use Rattle.std.proofs.Common.{sym, subst}
use Rattle.uefi_vars.specs.Order.{HasOrder}
use Rattle.uefi_vars.specs.AtRisk.{IsUnnamed, IsUndecodable}
use Rattle.uefi_vars.proofs.EntriesAtRisk.{those_along, unnamed_is, undecodable_is}
use Rattle.uefi_vars.proofs.at_risk.entries_at_risk.Goals as goal

pub returns-clause-unnamed : goal.returns-clause-unnamed
returns-clause-unnamed c =
    let vars = c.args.vars.now in
    let order = c.in_ok-order.order.items in
    let has = subst (HasOrder vars) (sym c.in_ok-order.ensures) c.in_ok-bytes.ensures.found in
    those_along _ (IsUnnamed vars) c.in_ok-numbers_at_risk.field-0.unnamed.items
    (unnamed_is vars order has (λ a other. c.variables_have_one_order.ensures vars a order other has) c.in_ok-named.named
    (rw c.deref.ensures.value at c.in_ok-named.ensures)
    c.in_ok-next.next c.in_ok-next.ensures.found (λ a other. c.variables_have_one_next.ensures vars a c.in_ok-next.next other
    c.in_ok-next.ensures.found)) c.in_ok-numbers_at_risk.ensures.unnamed

pub returns-clause-undecodable : goal.returns-clause-undecodable
returns-clause-undecodable c =
    let vars = c.args.vars.now in
    let order = c.in_ok-order.order.items in
    let has = subst (HasOrder vars) (sym c.in_ok-order.ensures) c.in_ok-bytes.ensures.found in
    those_along _ (IsUndecodable vars) c.in_ok-numbers_at_risk.field-0.undecodable.items
    (undecodable_is vars order has (λ a other. c.variables_have_one_order.ensures vars a order other has) c.in_ok-named.named
    (rw c.deref.ensures.value at c.in_ok-named.ensures))
    c.in_ok-numbers_at_risk.ensures.undecodable
