use Rattle.uefi_vars.proofs.Sets.{fault_leaves_none}
use Rattle.uefi_vars.proofs.laws.a_fault_leaves_no_set.Goals as goal

pub returns : goal.returns
returns c = fault_leaves_none
