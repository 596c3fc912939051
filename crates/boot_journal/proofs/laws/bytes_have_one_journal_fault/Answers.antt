-- Each first fault is what the reader answers.
use Rattle.boot_journal.proofs.JournalFiles.{one_fault}
use Rattle.boot_journal.proofs.laws.bytes_have_one_journal_fault.Goals as goal

pub returns : goal.returns
returns c = one_fault
