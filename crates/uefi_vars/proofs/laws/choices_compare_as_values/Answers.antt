use Rattle.uefi_vars.proofs.PlanComparison.{choice_Decides}
use Rattle.uefi_vars.proofs.laws.choices_compare_as_values.Goals as goal

pub returns : goal.returns
returns c = λ a b. choice_Decides c.load_options_compare_as_values.ensures a b
