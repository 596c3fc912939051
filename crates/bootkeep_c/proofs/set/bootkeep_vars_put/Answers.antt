use Rattle.std.proofs.Common.{List, ℕ, inr, refl, subst, ◌∙◌}
use Rattle.uefi_vars.specs.declared.fault.PutFault.TheVariants as put
use Rattle.uefi_vars.proofs.Sets.{fault_leaves_none}
use Rattle.bootkeep_c.specs.Refusals.{set_failure, put_failure}
use Rattle.bootkeep_c.specs.Buffer.{Gives}
use Rattle.bootkeep_c.proofs.Telling.{only_memory, only_failure, given}
use Rattle.bootkeep_c.proofs.Failures.{put_failure_is_of_set, put_failure_is, no_put_failure}
use Rattle.bootkeep_c.proofs.set.bootkeep_vars_put.Goals as goal

pub returns-in-Ok-clause-fault : goal.returns-in-Ok-clause-fault
returns-in-Ok-clause-fault c = λ fault first.
    absurd (fault_leaves_none c.args.set.now fault c.in-Ok.ensures.found.0 first c.in-Ok.ensures.found.1)

pub returns-in-Ok-clause-found : goal.returns-in-Ok-clause-found
returns-in-Ok-clause-found c = λ done.
    let found = c.in-Ok.ensures.found in
    let gives = subst (λ (answer : List ℕ). Gives c.give.result answer c.args.out.now c.give.new.out c.give.new.len)
    (c.deref.ensures.value ∙ found.3) c.give.ensures in
    (found.0, found.1, found.2, given c.give.result _ c.args.out.now c.give.new.out c.give.new.len gives done)

pub returns-in-Err-clause-set : goal.returns-in-Err-clause-set
returns-in-Err-clause-set c = λ vars spelled is.
    inr (
      only_memory c.in-Err.failure c.tell.result c.args.refusal.now c.tell.new.refusal c.tell.ensures
          (λ other. no_put_failure c.args.set.now c.args.name.now c.args.value.now vars c.in-Err.failure spelled is (c.in-Err.ensures.fault other)),
      record { buffer = refl; told = refl },
    )

pub returns-in-Err-clause-fault : goal.returns-in-Err-clause-fault
returns-in-Err-clause-fault c = λ fault first.
    only_failure c.in-Err.failure (set_failure fault) c.tell.result c.args.refusal.now c.tell.new.refusal c.tell.ensures
    (λ other. put_failure_is_of_set c.args.set.now c.args.name.now c.args.value.now fault c.in-Err.failure first (c.in-Err.ensures.fault other))

pub returns-in-Err-clause-bad_name : goal.returns-in-Err-clause-bad_name
returns-in-Err-clause-bad_name c = λ vars spelled bad.
    only_failure c.in-Err.failure (put_failure put.BadName) c.tell.result c.args.refusal.now c.tell.new.refusal c.tell.ensures
    (λ other. put_failure_is c.args.set.now c.args.name.now c.args.value.now vars put.BadName c.in-Err.failure spelled bad (c.in-Err.ensures.fault other))

pub returns-in-Err-clause-empty_data : goal.returns-in-Err-clause-empty_data
returns-in-Err-clause-empty_data c = λ vars spelled is empty.
    only_failure c.in-Err.failure (put_failure put.EmptyData) c.tell.result c.args.refusal.now c.tell.new.refusal c.tell.ensures
    (λ other. put_failure_is c.args.set.now c.args.name.now c.args.value.now vars put.EmptyData c.in-Err.failure spelled
    (is, empty) (c.in-Err.ensures.fault other))

pub returns-in-Err-clause-data_too_long : goal.returns-in-Err-clause-data_too_long
returns-in-Err-clause-data_too_long c = λ vars spelled is long.
    only_failure c.in-Err.failure (put_failure put.DataTooLong) c.tell.result c.args.refusal.now c.tell.new.refusal c.tell.ensures
    (λ other. put_failure_is c.args.set.now c.args.name.now c.args.value.now vars put.DataTooLong c.in-Err.failure spelled
    (is, long) (c.in-Err.ensures.fault other))
