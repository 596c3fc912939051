use Rattle.var_stores.proofs.StoreFaults.{one_fault}
use Rattle.var_stores.proofs.laws.a_file_has_one_fault.Goals as goal

pub returns : goal.returns
returns c = one_fault
