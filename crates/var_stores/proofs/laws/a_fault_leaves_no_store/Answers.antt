use Rattle.var_stores.proofs.StoreFaults.{no_store}
use Rattle.var_stores.proofs.laws.a_fault_leaves_no_store.Goals as goal

pub returns : goal.returns
returns c = no_store
