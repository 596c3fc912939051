use Rattle.uefi_vars.proofs.Numbers.{order_is_not_bad}
use Rattle.uefi_vars.proofs.laws.a_bad_order_gives_no_order.Goals as goal

pub returns : goal.returns
returns c = λ vars order bad has. order_is_not_bad c.units_have_two_bytes_each.ensures vars order has bad
