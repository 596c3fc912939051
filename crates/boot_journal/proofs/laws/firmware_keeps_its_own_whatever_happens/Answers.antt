-- By induction over the events, for a name that no change is of, and by what is found under each name.
use Rattle.boot_journal.proofs.Own.{owned, due_over, back_over}
use Rattle.boot_journal.proofs.laws.firmware_keeps_its_own_whatever_happens.Goals as goal

pub returns-clause-others : goal.returns-clause-others
returns-clause-others c = owned

pub returns-clause-over : goal.returns-clause-over
returns-clause-over c = due_over

pub returns-clause-back : goal.returns-clause-back
returns-clause-back c = back_over
