use Rattle.std.proofs.Common.{ℕ, List, inl, inr, subst, arith}
use Rattle.std.specs.String.{string_bytes}
use Rattle.uefi_vars.proofs.Sets.{fault_leaves_none}
use Rattle.bootkeep_c.specs.Refusals.{set_failure, open_failure}
use Rattle.bootkeep_c.specs.Runs.{GivesBoth}
use Rattle.bootkeep_c.proofs.Telling.{only_memory, only_failure, not_memory}
use Rattle.bootkeep_c.proofs.Openings.{opened_without_fault, events_have_no_failure, run_failure_is_of_set, run_failure_is_of_stream}
use Rattle.bootkeep_c.proofs.Openings.{run_failure_is, no_run_failure}
use Rattle.bootkeep_c.proofs.run.bootkeep_run.Goals as goal

pub returns-in-Ok-clause-runs : goal.returns-in-Ok-clause-runs
returns-in-Ok-clause-runs c = λ vars m events spelled are opens. elim c.give_both.ensures.given [
  | inl given ↦ inl given.0
  | inr long ↦ inr (inl long.0)
]

pub returns-in-Ok-clause-given : goal.returns-in-Ok-clause-given
returns-in-Ok-clause-given c = λ told.
    let after = c.in-Ok.after.items in
    let both = c.give_both in
    let first = subst (λ (first : List ℕ). GivesBoth both.result first c.as_bytes.result.now c.args.set_out.now
    both.new.first_out c.args.lines.now both.new.second_out both.new.first_len
    both.new.second_len) c.deref.ensures.value both.ensures in
    let second = subst (λ (second : List ℕ). GivesBoth both.result after second c.args.set_out.now both.new.first_out
    c.args.lines.now both.new.second_out both.new.first_len
    both.new.second_len) c.as_bytes.ensures.value first in
    (after, string_bytes c.in-Ok.text, c.in-Ok.ensures.ran, second)

pub returns-in-Ok-clause-set_fault : goal.returns-in-Ok-clause-set_fault
returns-in-Ok-clause-set_fault c = λ fault first.
    let ran = c.in-Ok.ensures.ran in
    absurd (fault_leaves_none c.args.set.now fault ran.vars first ran.spelled)

pub returns-in-Ok-clause-stream_fault : goal.returns-in-Ok-clause-stream_fault
returns-in-Ok-clause-stream_fault c = λ vars failed spelled why.
    let ran = c.in-Ok.ensures.ran in
    absurd (events_have_no_failure c.args.stream.now ran.events failed ran.read why)

pub returns-in-Ok-clause-open_fault : goal.returns-in-Ok-clause-open_fault
returns-in-Ok-clause-open_fault c = λ vars events fault spelled are is.
    let ran = c.in-Ok.ensures.ran in
    absurd (opened_without_fault c.what_opens_has_no_fault.ensures c.args.set.now ran.vars vars ran.happens.start fault
    ran.spelled ran.happens.opened spelled is)

pub returns-in-Ok-clause-told : goal.returns-in-Ok-clause-told
returns-in-Ok-clause-told c = λ is. elim c.give_both.ensures.given [
  | inl given ↦ absurd (omega (arith, given.0, is))
  | inr long ↦ absurd (omega (arith, long.0, is))
]

pub returns-in-Ok-clause-untouched : goal.returns-in-Ok-clause-untouched
returns-in-Ok-clause-untouched c = λ other. elim c.give_both.ensures.given [
  | inl given ↦ absurd (other given.0)
  | inr long ↦ (long.2, long.3)
]

pub returns-in-Err-clause-runs : goal.returns-in-Err-clause-runs
returns-in-Err-clause-runs c = λ vars m events spelled are opens.
    inr (inr (only_memory c.in-Err.failure c.tell.result c.args.refusal.now c.tell.new.refusal c.tell.ensures
    (λ other. no_run_failure c.what_opens_has_no_fault.ensures c.args.set.now c.args.stream.now vars m events c.in-Err.failure spelled opens are
    (c.in-Err.ensures.fault other))))

pub returns-in-Err-clause-set_fault : goal.returns-in-Err-clause-set_fault
returns-in-Err-clause-set_fault c = λ fault first.
    only_failure c.in-Err.failure (set_failure fault) c.tell.result c.args.refusal.now c.tell.new.refusal c.tell.ensures
    (λ other. run_failure_is_of_set c.args.set.now c.args.stream.now fault c.in-Err.failure first (c.in-Err.ensures.fault other))

pub returns-in-Err-clause-stream_fault : goal.returns-in-Err-clause-stream_fault
returns-in-Err-clause-stream_fault c = λ vars failed spelled why.
    only_failure c.in-Err.failure failed c.tell.result c.args.refusal.now c.tell.new.refusal c.tell.ensures
    (λ other. run_failure_is_of_stream c.args.set.now c.args.stream.now vars failed c.in-Err.failure spelled why (c.in-Err.ensures.fault other))

pub returns-in-Err-clause-open_fault : goal.returns-in-Err-clause-open_fault
returns-in-Err-clause-open_fault c = λ vars events fault spelled are is.
    only_failure c.in-Err.failure (open_failure fault) c.tell.result c.args.refusal.now c.tell.new.refusal c.tell.ensures
    (λ other. run_failure_is c.args.set.now c.args.stream.now vars events fault c.in-Err.failure spelled are is (c.in-Err.ensures.fault other))

pub returns-in-Err-clause-told : goal.returns-in-Err-clause-told
returns-in-Err-clause-told c = λ is.
    let other = not_memory c.in-Err.failure c.tell.result c.args.refusal.now c.tell.new.refusal c.tell.ensures is in
    (c.in-Err.failure, c.in-Err.ensures.fault other, c.tell.ensures)
