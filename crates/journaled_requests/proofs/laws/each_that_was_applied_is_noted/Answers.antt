use Rattle.journaled_requests.proofs.Counted.{all_counted}
use Rattle.journaled_requests.proofs.laws.each_that_was_applied_is_noted.Goals as goal

pub returns : goal.returns
returns c = all_counted
