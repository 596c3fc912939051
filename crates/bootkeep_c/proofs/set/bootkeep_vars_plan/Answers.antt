use Rattle.std.proofs.Common.{ℕ, List, inl, inr, refl, subst, ◌∙◌, arith}
use Rattle.uefi_vars.specs.declared.fault.VarFault.TheVariants as var
use Rattle.uefi_vars.specs.Vars.{Variables}
use Rattle.uefi_vars.specs.Order.{HasBadOrder}
use Rattle.uefi_vars.proofs.Sets.{same_set, fault_leaves_none}
use Rattle.bootkeep_c.specs.Refusals.{set_failure, vars_failure}
use Rattle.bootkeep_c.specs.Buffer.{Gives}
use Rattle.bootkeep_c.proofs.Telling.{only_memory, only_failure, given}
use Rattle.bootkeep_c.proofs.Failures.{plan_failure_is_of_set, plan_failure_is, no_plan_failure, normal_of, next_of}
use Rattle.bootkeep_c.proofs.set.bootkeep_vars_plan.Goals as goal
use Rattle.bootkeep_c.proofs.set.bootkeep_vars_plan.Goals.{then-status-eq-DONE, else-status-eq-DONE}

pub returns-after-status-eq-DONE-clause-plan : goal.returns-after-status-eq-DONE-clause-plan
returns-after-status-eq-DONE-clause-plan c = λ vars plan spelled has.
    let one = c.variables_have_one_plan.ensures in
    let found = c.in-Ok.ensures.found in
    let normal = normal_of one c.args.set.now c.in-Ok.plan.next c.in-Ok.plan.normal.items vars plan found spelled has in
    let next = next_of one c.args.set.now c.in-Ok.plan.next c.in-Ok.plan.normal.items vars plan found spelled has in (
      inl (subst (λ (answer : List ℕ). Gives c.give-status.result answer c.args.numbers.now c.give-status.new.out c.give-status.new.len)
          (c.deref.ensures.value ∙ normal) c.give-status.ensures),
      λ done. elim c.if-status-eq-DONE.branch [
        | then-status-eq-DONE w ↦ w.next-is ∙ w.number_or_none.ensures ∙ next
        | else-status-eq-DONE w ↦ absurd (w.if-status-eq-DONE.false done)
      ],
    )

pub returns-after-status-eq-DONE-clause-fault : goal.returns-after-status-eq-DONE-clause-fault
returns-after-status-eq-DONE-clause-fault c = λ fault first.
    absurd (fault_leaves_none c.args.set.now fault c.in-Ok.ensures.found.vars first c.in-Ok.ensures.found.spelled)

pub returns-after-status-eq-DONE-clause-bad_order : goal.returns-after-status-eq-DONE-clause-bad_order
returns-after-status-eq-DONE-clause-bad_order c = λ vars spelled bad.
    let found = c.in-Ok.ensures.found in
    let same = same_set c.args.set.now vars found.vars spelled found.spelled in
    absurd (c.a_bad_order_gives_no_order.ensures found.vars found.has.order (subst (λ (v : Variables). HasBadOrder v) same bad) found.has.has_order)

pub returns-after-status-eq-DONE-clause-found : goal.returns-after-status-eq-DONE-clause-found
returns-after-status-eq-DONE-clause-found c = λ done.
    let one = c.variables_have_one_plan.ensures in
    let found = c.in-Ok.ensures.found in
    let normal = normal_of one c.args.set.now c.in-Ok.plan.next c.in-Ok.plan.normal.items found.vars found.plan found found.spelled found.has in
    let next = next_of one c.args.set.now c.in-Ok.plan.next c.in-Ok.plan.normal.items found.vars found.plan found found.spelled found.has in
    let gives = subst (λ (answer : List ℕ). Gives c.give-status.result answer c.args.numbers.now c.give-status.new.out c.give-status.new.len)
    (c.deref.ensures.value ∙ normal) c.give-status.ensures in (
      found.vars,
      found.plan,
      found.spelled,
      found.has,
      given c.give-status.result _ c.args.numbers.now c.give-status.new.out c.give-status.new.len gives done,
      elim c.if-status-eq-DONE.branch [
        | then-status-eq-DONE w ↦ w.next-is ∙ w.number_or_none.ensures ∙ next
        | else-status-eq-DONE w ↦ absurd (w.if-status-eq-DONE.false done)
      ],
    )

pub returns-in-Err-clause-plan : goal.returns-in-Err-clause-plan
returns-in-Err-clause-plan c = λ vars plan spelled has.
    let none = only_memory c.in-Err.failure c.tell.result c.args.refusal.now c.tell.new.refusal c.tell.ensures
    (λ other. no_plan_failure c.a_bad_order_gives_no_order.ensures c.a_bad_next_gives_no_next.ensures c.args.set.now vars plan c.in-Err.failure spelled has
    (c.in-Err.ensures.fault other)) in
    (inr (none, record { buffer = refl; told = refl }), λ done. absurd (omega (arith, none, done)))

pub returns-in-Err-clause-fault : goal.returns-in-Err-clause-fault
returns-in-Err-clause-fault c = λ fault first.
    only_failure c.in-Err.failure (set_failure fault) c.tell.result c.args.refusal.now c.tell.new.refusal c.tell.ensures
    (λ other. plan_failure_is_of_set c.args.set.now fault c.in-Err.failure first (c.in-Err.ensures.fault other))

pub returns-in-Err-clause-bad_order : goal.returns-in-Err-clause-bad_order
returns-in-Err-clause-bad_order c = λ vars spelled bad.
    only_failure c.in-Err.failure (vars_failure var.BadOrder) c.tell.result c.args.refusal.now c.tell.new.refusal c.tell.ensures
    (λ other. plan_failure_is c.args.set.now vars var.BadOrder c.in-Err.failure spelled bad (c.in-Err.ensures.fault other))

pub returns-in-Err-clause-bad_next : goal.returns-in-Err-clause-bad_next
returns-in-Err-clause-bad_next c = λ vars spelled order bad.
    only_failure c.in-Err.failure (vars_failure var.BadNext) c.tell.result c.args.refusal.now c.tell.new.refusal c.tell.ensures
    (λ other. plan_failure_is c.args.set.now vars var.BadNext c.in-Err.failure spelled (order, bad) (c.in-Err.ensures.fault other))
