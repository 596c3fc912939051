use Rattle.boot_requests.proofs.laws.a_boot_deletes_the_next_entry.Goals as goal
use Rattle.boot_requests.proofs.WholeRuns.Hands.{next_gone}

pub returns : goal.returns
returns c = next_gone
