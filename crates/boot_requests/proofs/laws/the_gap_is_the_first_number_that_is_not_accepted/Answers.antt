use Rattle.std.proofs.Common.{ap}
use Rattle.std.specs.Prelude.{is_some}
use Rattle.boot_requests.proofs.laws.the_gap_is_the_first_number_that_is_not_accepted.Goals as goal
use Rattle.boot_requests.proofs.WholeRuns.Gaps.{gap_is}
use Rattle.boot_requests.specs.Run.{accepted_requests}

pub returns : goal.returns
returns c = record {
  accepted = λ start run. (gap_is start.next_number (accepted_requests start.next_number run)).filled;
  gap = λ start run. ap is_some (gap_is start.next_number (accepted_requests start.next_number run)).free;
}
