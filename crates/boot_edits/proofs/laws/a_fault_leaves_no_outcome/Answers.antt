use Rattle.boot_edits.proofs.Outcomes.{edited_or_not}
use Rattle.boot_edits.proofs.laws.a_fault_leaves_no_outcome.Goals as goal

pub returns : goal.returns
returns c = edited_or_not c.variables_and_options_are_read_one_way.ensures
