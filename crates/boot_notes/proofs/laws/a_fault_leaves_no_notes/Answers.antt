use Rattle.boot_notes.proofs.Spellings.{no_notes}
use Rattle.boot_notes.proofs.laws.a_fault_leaves_no_notes.Goals as goal

pub returns : goal.returns
returns c = no_notes
