-- What the reader answers is spelled, or is a fault of the bytes.
use Rattle.boot_journal.proofs.JournalFiles.{either}
use Rattle.boot_journal.proofs.laws.bytes_spell_a_journal_or_have_a_fault.Goals as goal

pub returns : goal.returns
returns c = either
