-- The reader answers the fault, and would answer the journal.
use Rattle.boot_journal.proofs.JournalFiles.{no_journal}
use Rattle.boot_journal.proofs.laws.a_fault_leaves_no_journal.Goals as goal

pub returns : goal.returns
returns c = no_journal
