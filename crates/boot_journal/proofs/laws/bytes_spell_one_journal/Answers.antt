-- Each that is spelled is what the reader answers.
use Rattle.boot_journal.proofs.JournalFiles.{one_journal}
use Rattle.boot_journal.proofs.laws.bytes_spell_one_journal.Goals as goal

pub returns : goal.returns
returns c = one_journal
