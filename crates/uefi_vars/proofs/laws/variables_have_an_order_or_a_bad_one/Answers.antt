use Rattle.uefi_vars.proofs.Numbers.{order_or_bad}
use Rattle.uefi_vars.proofs.laws.variables_have_an_order_or_a_bad_one.Goals as goal

pub returns : goal.returns
returns c = order_or_bad c.bytes_are_written_again.ensures c.two_bytes_are_a_unit.ensures
