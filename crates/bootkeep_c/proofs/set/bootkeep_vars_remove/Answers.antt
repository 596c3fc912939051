use Rattle.std.proofs.Common.{ℕ, List, inr, refl, subst, ◌∙◌}
use Rattle.uefi_vars.proofs.Sets.{fault_leaves_none}
use Rattle.bootkeep_c.specs.Refusals.{set_failure}
use Rattle.bootkeep_c.specs.Buffer.{Gives}
use Rattle.bootkeep_c.proofs.Telling.{only_memory, only_failure, given}
use Rattle.bootkeep_c.proofs.Failures.{set_failure_is, no_set_failure}
use Rattle.bootkeep_c.proofs.set.bootkeep_vars_remove.Goals as goal

pub returns-in-Ok-Some-clause-fault : goal.returns-in-Ok-Some-clause-fault
returns-in-Ok-Some-clause-fault c = λ fault first.
    let found = rw c.in-Ok-Some.field-0-is at c.in-Ok-Some.ensures.found in
    absurd (fault_leaves_none c.args.set.now fault found.0 first found.1)

pub returns-in-Ok-Some-clause-found : goal.returns-in-Ok-Some-clause-found
returns-in-Ok-Some-clause-found c = λ done.
    let found = rw c.in-Ok-Some.field-0-is at c.in-Ok-Some.ensures.found in
    let gives = subst (λ (answer : List ℕ). Gives c.give.result answer c.args.out.now c.give.new.out c.give.new.len)
    (c.deref.ensures.value ∙ found.3) c.give.ensures in
    (found.0, found.1, found.2, given c.give.result _ c.args.out.now c.give.new.out c.give.new.len gives done)

pub returns-in-Ok-None-clause-fault : goal.returns-in-Ok-None-clause-fault
returns-in-Ok-None-clause-fault c = λ fault first.
    let missing = rw c.in-Ok-None.field-0-is at c.in-Ok-None.ensures.absent in
    absurd (fault_leaves_none c.args.set.now fault missing.0 first missing.1)

pub returns-in-Err-clause-set : goal.returns-in-Err-clause-set
returns-in-Err-clause-set c = λ vars spelled is.
    inr (
      only_memory c.in-Err.failure c.tell.result c.args.refusal.now c.tell.new.refusal c.tell.ensures
          (λ other. no_set_failure c.args.set.now vars c.in-Err.failure spelled (c.in-Err.ensures.fault other)),
      record { buffer = refl; told = refl },
    )

pub returns-in-Err-clause-absent : goal.returns-in-Err-clause-absent
returns-in-Err-clause-absent c = λ vars spelled is.
    inr (only_memory c.in-Err.failure c.tell.result c.args.refusal.now c.tell.new.refusal c.tell.ensures
    (λ other. no_set_failure c.args.set.now vars c.in-Err.failure spelled (c.in-Err.ensures.fault other)))

pub returns-in-Err-clause-fault : goal.returns-in-Err-clause-fault
returns-in-Err-clause-fault c = λ fault first.
    only_failure c.in-Err.failure (set_failure fault) c.tell.result c.args.refusal.now c.tell.new.refusal c.tell.ensures
    (λ other. set_failure_is c.args.set.now fault c.in-Err.failure first (c.in-Err.ensures.fault other))
