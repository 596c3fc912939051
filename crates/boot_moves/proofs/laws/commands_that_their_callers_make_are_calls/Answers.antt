-- By induction over what is done.
use Rattle.boot_moves.proofs.Doings.{are_steps}
use Rattle.boot_moves.proofs.laws.commands_that_their_callers_make_are_calls.Goals as goal

pub returns : goal.returns
returns c = λ w done are. are_steps w done are
