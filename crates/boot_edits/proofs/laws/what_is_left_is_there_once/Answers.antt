use Rattle.boot_edits.proofs.Orders.{extended_once}
use Rattle.boot_edits.proofs.laws.what_is_left_is_there_once.Goals as goal

pub returns : goal.returns
returns c = extended_once
