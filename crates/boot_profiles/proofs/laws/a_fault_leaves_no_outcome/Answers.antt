use Rattle.boot_profiles.proofs.Outcomes.{applied_or_not}
use Rattle.boot_profiles.proofs.laws.a_fault_leaves_no_outcome.Goals as goal

pub returns : goal.returns
returns c profile from to fault done why = applied_or_not c.variables_and_options_are_read_one_way.ensures profile from to fault done why
