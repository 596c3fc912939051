use Rattle.std.proofs.Common.{subst}
use Rattle.uefi_vars.specs.Plan.{PlanParts, HasPlan, AreNumbersOf}
use Rattle.uefi_vars.proofs.Chosen.{numbers_found}
use Rattle.uefi_vars.proofs.planner.plan_numbers.Goals as goal
use Rattle.uefi_vars.proofs.planner.plan_numbers.Goals.{After-drop-order-2}

found : (c : After-drop-order-2) → (plan : PlanParts) × HasPlan c.args.vars.now plan × AreNumbersOf plan c.next_number-next.result c.in_ok-normal.normal.items
found c =
    let others = rw (c.deref.ensures.value, c.in_ok-order.ensures) at c.in_ok-normal.ensures in
    numbers_found c.args.vars.now _ c.in_ok-next.next c.next_number-next.result c.in_ok-normal.normal.items
    c.in_ok-bytes.ensures.found c.in_ok-next.ensures.found c.next_number-next.ensures others

pub returns-clause-found : goal.returns-clause-found
returns-clause-found c = found c

pub returns-clause-only : goal.returns-clause-only
returns-clause-only c = λ plan has.
    subst (λ (p : PlanParts). AreNumbersOf p c.next_number-next.result c.in_ok-normal.normal.items)
    (c.variables_have_one_plan.ensures c.args.vars.now (found c).0 plan (found c).1 has) (found c).2
