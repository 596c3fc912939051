use Rattle.boot_edits.proofs.Orders.{extended_has}
use Rattle.boot_edits.proofs.laws.what_is_left_is_in_the_order.Goals as goal

pub returns : goal.returns
returns c = extended_has
