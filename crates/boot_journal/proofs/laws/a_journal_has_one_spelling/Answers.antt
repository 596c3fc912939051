-- The spelling is a function of the journal.
use Rattle.boot_journal.proofs.JournalFiles.{one_spelling}
use Rattle.boot_journal.proofs.laws.a_journal_has_one_spelling.Goals as goal

pub returns : goal.returns
returns c = one_spelling
