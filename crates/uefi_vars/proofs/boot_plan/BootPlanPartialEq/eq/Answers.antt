use Rattle.std.proofs.Common.{rules}
use Rattle.uefi_vars.proofs.PlanComparison.{plan_eq-Decides}
use Rattle.uefi_vars.proofs.boot_plan.BootPlanPartialEq.eq.Goals as goal

pub returns-then-eq-clause-equal : goal.returns-then-eq-clause-equal
returns-then-eq-clause-equal c = plan_eq-Decides c.load_options_compare_as_values.ensures c.args.self.now c.args.other.now c.eq-then-eq.result (search rules)
