use Rattle.boot_requests.proofs.laws.each_number_is_applied_once.Goals as goal
use Rattle.boot_requests.proofs.WholeRuns.Histories.{history_numbers}
use Rattle.boot_requests.proofs.WholeRuns.Gaps.{gap_is}
use Rattle.boot_requests.proofs.WholeRuns.NextNumbers.{state_number}
use Rattle.boot_requests.specs.Run.{accepted_requests}

pub returns : goal.returns
returns c = record {
  numbers = λ start run. history_numbers start.next_number run;
  gap = λ start run. (gap_is start.next_number (accepted_requests start.next_number run)).from;
  next = state_number;
}
