-- Sets are spelled in one way.
use Rattle.change_records.proofs.Spellings.{one_record}
use Rattle.change_records.proofs.laws.bytes_spell_one_record.Goals as goal

pub returns : goal.returns
returns c = one_record c.bytes_spell_one_set.ensures
