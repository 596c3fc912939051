use Rattle.uefi_vars.proofs.Same.{vars_eq-Decides}
use Rattle.uefi_vars.proofs.laws.variables_compare_as_values.Goals as goal

pub returns : goal.returns
returns c = λ a b. vars_eq-Decides a b
