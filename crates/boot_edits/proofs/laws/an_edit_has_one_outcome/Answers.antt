use Rattle.boot_edits.proofs.Outcomes.{edited_once}
use Rattle.boot_edits.proofs.laws.an_edit_has_one_outcome.Goals as goal

pub returns : goal.returns
returns c = edited_once c.variables_and_options_are_read_one_way.ensures
