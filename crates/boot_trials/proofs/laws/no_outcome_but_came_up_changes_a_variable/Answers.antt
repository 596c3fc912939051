use Rattle.boot_trials.proofs.Outcomes.{only_came_up}
use Rattle.boot_trials.proofs.laws.no_outcome_but_came_up_changes_a_variable.Goals as goal

pub returns : goal.returns
returns c trial start from to outcome is other = only_came_up trial.entry outcome from to is.made other
