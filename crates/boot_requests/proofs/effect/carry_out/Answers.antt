use Rattle.std.proofs.Common.{◌≤◌, ℕ, List, length, sym, subst}
use Rattle.uefi_vars.specs.Order.{order_max}
use Rattle.boot_requests.proofs.Variables.OrderLists.{order_fits}
use Rattle.boot_requests.proofs.effect.carry_out.Goals as goal

pub set_order-requires : goal.set_order-requires
set_order-requires c =
    subst (λ (ns : List ℕ). length ns ≤ order_max) (sym c.numbers.ensures.numbers)
    (order_fits c.units_have_two_bytes_each.ensures c.args.request.now _ c.in-Order.is c.requires)
