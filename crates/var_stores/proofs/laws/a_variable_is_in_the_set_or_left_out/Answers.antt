use Rattle.var_stores.proofs.LeftOut.{held_or_left_out}
use Rattle.var_stores.proofs.laws.a_variable_is_in_the_set_or_left_out.Goals as goal

pub returns : goal.returns
returns c = held_or_left_out
