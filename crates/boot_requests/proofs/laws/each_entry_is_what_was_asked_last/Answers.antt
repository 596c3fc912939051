use Rattle.boot_requests.proofs.laws.each_entry_is_what_was_asked_last.Goals as goal
use Rattle.boot_requests.proofs.WholeRuns.Histories.{entry_left}

pub returns : goal.returns
returns c = entry_left
