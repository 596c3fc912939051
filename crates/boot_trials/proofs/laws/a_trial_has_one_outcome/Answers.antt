use Rattle.boot_trials.proofs.Outcomes.{one_outcome}
use Rattle.boot_trials.proofs.laws.a_trial_has_one_outcome.Goals as goal

pub returns : goal.returns
returns c = one_outcome
