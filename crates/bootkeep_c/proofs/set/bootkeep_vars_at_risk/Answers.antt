use Rattle.std.proofs.Common.{ℕ, List, inl, inr, refl, subst, ◌∙◌, arith}
use Rattle.uefi_vars.specs.declared.fault.VarFault.TheVariants as var
use Rattle.uefi_vars.specs.Vars.{Variables}
use Rattle.uefi_vars.specs.Order.{HasBadOrder, HasBadNext}
use Rattle.uefi_vars.proofs.Sets.{same_set, fault_leaves_none}
use Rattle.bootkeep_c.specs.Refusals.{set_failure, vars_failure}
use Rattle.bootkeep_c.specs.Buffer.{Gives}
use Rattle.bootkeep_c.proofs.Telling.{only_memory, only_failure, given}
use Rattle.bootkeep_c.proofs.Failures.{plan_failure_is_of_set, plan_failure_is, no_vars_failure, risk_of}
use Rattle.bootkeep_c.proofs.set.bootkeep_vars_at_risk.Goals as goal
use Rattle.bootkeep_c.proofs.set.bootkeep_vars_at_risk.Goals.{then-status-eq-DONE, else-status-eq-DONE}

pub returns-after-status-eq-DONE-clause-numbers : goal.returns-after-status-eq-DONE-clause-numbers
returns-after-status-eq-DONE-clause-numbers c = λ vars unnamed undecodable spelled are.
    let listed = c.in-Ok.risk in
    let same = risk_of c.args.set.now listed.numbers.items listed.unnamed vars unnamed undecodable c.in-Ok.ensures.found spelled are in (
      inl (subst (λ (answer : List ℕ). Gives c.give-status.result answer c.args.numbers.now c.give-status.new.out c.give-status.new.len)
          (c.deref.ensures.value ∙ same.0) c.give-status.ensures),
      λ done. elim c.if-status-eq-DONE.branch [
        | then-status-eq-DONE w ↦ w.unnamed-is ∙ same.1
        | else-status-eq-DONE w ↦ absurd (w.if-status-eq-DONE.false done)
      ],
    )

pub returns-after-status-eq-DONE-clause-fault : goal.returns-after-status-eq-DONE-clause-fault
returns-after-status-eq-DONE-clause-fault c = λ fault first.
    absurd (fault_leaves_none c.args.set.now fault c.in-Ok.ensures.found.vars first c.in-Ok.ensures.found.spelled)

pub returns-after-status-eq-DONE-clause-bad_order : goal.returns-after-status-eq-DONE-clause-bad_order
returns-after-status-eq-DONE-clause-bad_order c = λ vars spelled bad.
    let found = c.in-Ok.ensures.found in
    absurd (found.are.good_order (subst (λ (v : Variables). HasBadOrder v) (same_set c.args.set.now vars found.vars spelled found.spelled) bad))

pub returns-after-status-eq-DONE-clause-bad_next : goal.returns-after-status-eq-DONE-clause-bad_next
returns-after-status-eq-DONE-clause-bad_next c = λ vars spelled order bad.
    let found = c.in-Ok.ensures.found in
    absurd (found.are.good_next (subst (λ (v : Variables). HasBadNext v) (same_set c.args.set.now vars found.vars spelled found.spelled) bad))

pub returns-after-status-eq-DONE-clause-found : goal.returns-after-status-eq-DONE-clause-found
returns-after-status-eq-DONE-clause-found c = λ done.
    let found = c.in-Ok.ensures.found in
    let gives = subst (λ (answer : List ℕ). Gives c.give-status.result answer c.args.numbers.now c.give-status.new.out c.give-status.new.len)
    (c.deref.ensures.value ∙ found.numbers_are) c.give-status.ensures in (
      found.vars,
      found.unnamed,
      found.undecodable,
      found.spelled,
      found.are,
      given c.give-status.result _ c.args.numbers.now c.give-status.new.out c.give-status.new.len gives done,
      elim c.if-status-eq-DONE.branch [
        | then-status-eq-DONE w ↦ w.unnamed-is ∙ found.count_is
        | else-status-eq-DONE w ↦ absurd (w.if-status-eq-DONE.false done)
      ],
    )

pub returns-in-Err-clause-numbers : goal.returns-in-Err-clause-numbers
returns-in-Err-clause-numbers c = λ vars unnamed undecodable spelled are.
    let none = only_memory c.in-Err.failure c.tell.result c.args.refusal.now c.tell.new.refusal c.tell.ensures
    (λ other. no_vars_failure c.args.set.now vars c.in-Err.failure spelled are.good_order are.good_next (c.in-Err.ensures.fault other)) in
    (inr (none, record { buffer = refl; told = refl }), λ done. absurd (omega (arith, none, done)))

pub returns-in-Err-clause-fault : goal.returns-in-Err-clause-fault
returns-in-Err-clause-fault c = λ fault first.
    only_failure c.in-Err.failure (set_failure fault) c.tell.result c.args.refusal.now c.tell.new.refusal c.tell.ensures
    (λ other. plan_failure_is_of_set c.args.set.now fault c.in-Err.failure first (c.in-Err.ensures.fault other))

pub returns-in-Err-clause-bad_order : goal.returns-in-Err-clause-bad_order
returns-in-Err-clause-bad_order c = λ vars spelled bad.
    only_failure c.in-Err.failure (vars_failure var.BadOrder) c.tell.result c.args.refusal.now c.tell.new.refusal c.tell.ensures
    (λ other. plan_failure_is c.args.set.now vars var.BadOrder c.in-Err.failure spelled bad (c.in-Err.ensures.fault other))

pub returns-in-Err-clause-bad_next : goal.returns-in-Err-clause-bad_next
returns-in-Err-clause-bad_next c = λ vars spelled order bad.
    only_failure c.in-Err.failure (vars_failure var.BadNext) c.tell.result c.args.refusal.now c.tell.new.refusal c.tell.ensures
    (λ other. plan_failure_is c.args.set.now vars var.BadNext c.in-Err.failure spelled (order, bad) (c.in-Err.ensures.fault other))
