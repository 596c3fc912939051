use Rattle.boot_edits.proofs.Outcomes.{others_kept}
use Rattle.boot_edits.proofs.laws.edits_keep_other_variables.Goals as goal

pub returns : goal.returns
returns c = others_kept
