use Rattle.boot_requests.proofs.Turn.Replies.{one_turn}
use Rattle.boot_requests.proofs.laws.a_turn_is_one.Goals as goal

pub returns : goal.returns
returns c = record {
  state = λ k x y seen a b g h. (one_turn c.entries_have_one_plan.ensures k x y seen a b g h).0;
  reply = λ k x y seen a b g h. (one_turn c.entries_have_one_plan.ensures k x y seen a b g h).1;
}
