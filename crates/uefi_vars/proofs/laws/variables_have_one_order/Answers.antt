use Rattle.uefi_vars.proofs.Numbers.{one_order}
use Rattle.uefi_vars.proofs.laws.variables_have_one_order.Goals as goal

pub returns : goal.returns
returns c = one_order c.units_are_read_again.ensures
