use Rattle.boot_edits.proofs.Orders.{not_behind}
use Rattle.boot_edits.proofs.laws.what_is_in_front_is_not_behind.Goals as goal

pub returns : goal.returns
returns c = not_behind
