use Rattle.std.proofs.Common.{Ok, Err, inl, ap, ◌∙◌}
use Rattle.uefi_vars.specs.Plan.{HasPlan}
use Rattle.uefi_vars.proofs.Plans.{plan_found}
use Rattle.uefi_vars.proofs.planner.plan.Goals as goal
use Rattle.uefi_vars.proofs.planner.plan.Goals.{After-drop-numbers-2}

planned : (c : After-drop-numbers-2) → HasPlan c.args.vars.now c.new.result
planned c =
    let others = rw (c.deref.ensures.value, c.in_ok-numbers.ensures) at c.in_ok-normal.ensures in
    rw c.new.ensures (plan_found c.args.vars.now _ c.in_ok-number.number c.in_ok-next.next c.in_ok-normal.normal.items
    c.in_ok-order.ensures.found c.in_ok-number.ensures.found c.in_ok-next.ensures others)

pub returns-in_err-order-clause-only : goal.returns-in_err-order-clause-only
returns-in_err-order-clause-only c = λ plan has. absurd (c.a_bad_order_gives_no_order.ensures c.args.vars.now has.order
    (c.order_bytes.ensures.bad_order.0 (c.in_err-order.was ∙ ap Err c.in_err-order.ensures.named)) has.has_order)

pub returns-clause-found : goal.returns-clause-found
returns-clause-found c = planned c

pub returns-clause-only : goal.returns-clause-only
returns-clause-only c = λ plan has. inl (ap Ok (c.variables_have_one_plan.ensures c.args.vars.now c.new.result plan (planned c) has))
