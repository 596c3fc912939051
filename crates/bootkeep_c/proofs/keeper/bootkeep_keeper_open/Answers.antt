use Rattle.std.proofs.Common.{Some, inl, inr, refl, ap, subst, ◌∙◌}
use Rattle.uefi_vars.specs.Vars.{Variables}
use Rattle.boot_requests.specs.State.{State}
use Rattle.boot_requests.specs.Turn.{Plain, plain_start}
use Rattle.boot_requests.specs.StoredState.{OpensAs}
use Rattle.uefi_vars.proofs.Sets.{same_set, fault_leaves_none}
use Rattle.bootkeep_c.specs.Refusals.{set_failure, open_failure}
use Rattle.bootkeep_c.proofs.Telling.{only_memory, only_failure}
use Rattle.bootkeep_c.proofs.Openings.{keep_failure_is_of_set, keep_failure_is, no_keep_failure, opened_without_fault}
use Rattle.bootkeep_c.proofs.keeper.bootkeep_keeper_open.Goals as goal

pub returns-in-Ok-clause-opened : goal.returns-in-Ok-clause-opened
returns-in-Ok-clause-opened c = λ vars m spelled opens.
    let found = c.in-Ok.ensures.found in
    let same = same_set c.args.set.now found.0 vars found.2 spelled in
    let state = c.variables_open_as_one_state.ensures found.1 m vars (subst (λ (v : Variables). OpensAs v found.1) same found.3) opens in
    inl (refl, c.fill.ensures.kept ∙ c.opened.ensures ∙ ap (λ (k : Plain). Some k) (found.4 ∙ ap (λ (s : State). plain_start s) state))

pub returns-in-Ok-clause-set_fault : goal.returns-in-Ok-clause-set_fault
returns-in-Ok-clause-set_fault c = λ fault first.
    absurd (fault_leaves_none c.args.set.now fault c.in-Ok.ensures.found.0 first c.in-Ok.ensures.found.2)

pub returns-in-Ok-clause-open_fault : goal.returns-in-Ok-clause-open_fault
returns-in-Ok-clause-open_fault c = λ vars fault spelled is.
    let found = c.in-Ok.ensures.found in
    absurd (opened_without_fault c.what_opens_has_no_fault.ensures c.args.set.now found.0 vars found.1 fault found.2 found.3 spelled is)

pub returns-in-Ok-clause-found : goal.returns-in-Ok-clause-found
returns-in-Ok-clause-found c = λ done.
    let found = c.in-Ok.ensures.found in
    (found.0, found.1, found.2, found.3, c.fill.ensures.kept ∙ c.opened.ensures ∙ ap (λ (k : Plain). Some k) found.4)

pub returns-in-Err-clause-opened : goal.returns-in-Err-clause-opened
returns-in-Err-clause-opened c = λ vars m spelled opens.
    inr (only_memory c.in-Err.failure c.tell_closed.result c.args.refusal.now c.tell_closed.new.refusal c.tell_closed.ensures.told
    (λ other. no_keep_failure c.what_opens_has_no_fault.ensures c.args.set.now vars m c.in-Err.failure spelled opens (c.in-Err.ensures.fault other)))

pub returns-in-Err-clause-set_fault : goal.returns-in-Err-clause-set_fault
returns-in-Err-clause-set_fault c = λ fault first.
    only_failure c.in-Err.failure (set_failure fault) c.tell_closed.result c.args.refusal.now c.tell_closed.new.refusal c.tell_closed.ensures.told
    (λ other. keep_failure_is_of_set c.args.set.now fault c.in-Err.failure first (c.in-Err.ensures.fault other))

pub returns-in-Err-clause-open_fault : goal.returns-in-Err-clause-open_fault
returns-in-Err-clause-open_fault c = λ vars fault spelled is.
    only_failure c.in-Err.failure (open_failure fault) c.tell_closed.result c.args.refusal.now c.tell_closed.new.refusal c.tell_closed.ensures.told
    (λ other. keep_failure_is c.args.set.now vars fault c.in-Err.failure spelled is (c.in-Err.ensures.fault other))
