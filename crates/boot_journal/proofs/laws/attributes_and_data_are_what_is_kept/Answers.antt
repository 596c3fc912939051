-- By what is found under each name, with its attributes put on and taken off.
use Rattle.boot_journal.proofs.WithAttributes.{data_back, attributes_kept, on_again}
use Rattle.boot_journal.proofs.laws.attributes_and_data_are_what_is_kept.Goals as goal

pub returns-clause-set : goal.returns-clause-set
returns-clause-set c = data_back

pub returns-clause-attributes : goal.returns-clause-attributes
returns-clause-attributes c = attributes_kept

pub returns-clause-kept : goal.returns-clause-kept
returns-clause-kept c = on_again
