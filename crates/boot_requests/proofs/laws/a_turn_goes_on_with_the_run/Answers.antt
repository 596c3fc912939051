use Rattle.boot_requests.proofs.laws.a_turn_goes_on_with_the_run.Goals as goal
use Rattle.boot_requests.proofs.Turn.Turns.{turn_goes_on}

pub returns : goal.returns
returns c = record {
  state = λ k to start run seen answer s turn. (turn_goes_on k start run s seen to answer turn).0;
  reply = λ k to start run seen answer s turn. (turn_goes_on k start run s seen to answer turn).1;
}
