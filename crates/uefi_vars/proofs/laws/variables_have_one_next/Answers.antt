use Rattle.uefi_vars.proofs.Next.{one_next}
use Rattle.uefi_vars.proofs.laws.variables_have_one_next.Goals as goal

pub returns : goal.returns
returns c = one_next
