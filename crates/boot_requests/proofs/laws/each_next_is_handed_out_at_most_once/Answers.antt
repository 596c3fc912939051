use Rattle.boot_requests.proofs.laws.each_next_is_handed_out_at_most_once.Goals as goal
use Rattle.boot_requests.proofs.WholeRuns.Hands.{hands_up_to_sets}

pub returns : goal.returns
returns c = hands_up_to_sets
