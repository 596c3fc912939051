use Rattle.var_stores.proofs.Counts.{one_count}
use Rattle.var_stores.proofs.laws.bytes_have_one_count_of_records.Goals as goal

pub returns : goal.returns
returns c = λ bytes m n first second. one_count first second
