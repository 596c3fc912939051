use Rattle.std.proofs.Common.{refl}
use Rattle.uefi_vars.specs.PlanEquality.{plan_eq}
use Rattle.uefi_vars.proofs.PlanComparison.{plan_eq-Decides}
use Rattle.uefi_vars.proofs.laws.plans_compare_as_values.Goals as goal

pub returns : goal.returns
returns c = λ a b. plan_eq-Decides c.load_options_compare_as_values.ensures a b (plan_eq a b) refl
