use Rattle.boot_edits.proofs.Outcomes.{one_edit_fault}
use Rattle.boot_edits.proofs.laws.an_edit_has_one_fault.Goals as goal

pub returns : goal.returns
returns c = one_edit_fault c.variables_and_options_are_read_one_way.ensures
