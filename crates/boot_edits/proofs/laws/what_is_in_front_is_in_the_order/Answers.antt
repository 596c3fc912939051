use Rattle.boot_edits.proofs.Orders.{in_front_has}
use Rattle.boot_edits.proofs.laws.what_is_in_front_is_in_the_order.Goals as goal

pub returns : goal.returns
returns c = in_front_has
