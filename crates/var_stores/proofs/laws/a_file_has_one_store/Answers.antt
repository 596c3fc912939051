use Rattle.var_stores.proofs.OneReading.{one_store}
use Rattle.var_stores.proofs.laws.a_file_has_one_store.Goals as goal

pub returns : goal.returns
returns c = one_store
