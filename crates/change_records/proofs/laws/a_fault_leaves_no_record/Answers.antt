-- What has the fault of a set isn't one.
use Rattle.change_records.proofs.Spellings.{no_record}
use Rattle.change_records.proofs.laws.a_fault_leaves_no_record.Goals as goal

pub returns : goal.returns
returns c = no_record c.a_fault_leaves_no_set.ensures
