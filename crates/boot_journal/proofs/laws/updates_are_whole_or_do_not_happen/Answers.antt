-- By induction over the events, with what the machine stands for and what it would fall back to.
use Rattle.boot_journal.proofs.Whole.{all_whole}
use Rattle.boot_journal.proofs.laws.updates_are_whole_or_do_not_happen.Goals as goal

pub returns : goal.returns
returns c = all_whole c.each_change_is_needed.ensures c.keep_is_no_boot_name.ensures
