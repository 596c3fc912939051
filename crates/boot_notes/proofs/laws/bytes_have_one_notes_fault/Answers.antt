use Rattle.boot_notes.proofs.Spellings.{one_fault}
use Rattle.boot_notes.proofs.laws.bytes_have_one_notes_fault.Goals as goal

pub returns : goal.returns
returns c = one_fault
