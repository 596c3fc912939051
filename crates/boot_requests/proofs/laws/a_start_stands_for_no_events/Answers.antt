use Rattle.boot_requests.proofs.laws.a_start_stands_for_no_events.Goals as goal
use Rattle.boot_requests.proofs.Turn.Turns.{start_stands}

pub returns : goal.returns
returns c = start_stands
