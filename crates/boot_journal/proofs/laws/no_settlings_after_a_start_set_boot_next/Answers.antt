-- No settling and no start sets BootNext, so no list of them does.
use Rattle.boot_journal.proofs.Next.{next_of_all}
use Rattle.boot_journal.proofs.laws.no_settlings_after_a_start_set_boot_next.Goals as goal

pub returns : goal.returns
returns c = next_of_all
