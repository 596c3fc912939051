use Rattle.std.proofs.Common.{◌≡◌, ℕ, List, sym, ap, subst, ◌∙◌}
use Rattle.std.specs.FinMap.{entries}
use Rattle.uefi_vars.specs.BootChange.{is_boot_name}
use Rattle.uefi_vars.specs.Iter.{variables_left}
use Rattle.boot_edits.proofs.Taken.{IsGoing, begin, step, same_or_not}
use Rattle.boot_edits.proofs.restore.copy_those.Goals as goal

pub loop-name-init : goal.loop-name-init
loop-name-init c =
    let from = c.args.from.now in
    let Skips : List ℕ → Type 0 = λ name. is_boot_name name ≡ c.args.boot → ⊥ in
    let all : variables_left c.into_iter-name-iterator.result ≡ entries from =
    ap variables_left c.into_iter-name-iterator.ensures.into_iter_gives ∙ c.iter-name-items.ensures.items in
    subst (λ (left : List (List ℕ × List ℕ)). IsGoing Skips c.args.vars.now from left c.args.vars.now) (sym all)
    (begin Skips c.args.vars.now from (λ name taken. c.requires name (same_or_not _ _ taken)))

pub loop-name-preserved : goal.loop-name-preserved
loop-name-preserved c =
    let Skips : List ℕ → Type 0 = λ name. is_boot_name name ≡ c.args.boot → ⊥ in
    step Skips c.args.vars.now c.args.from.now _ _ _
    (subst (λ (left : List (List ℕ × List ℕ)). IsGoing Skips c.args.vars.now c.args.from.now left c.loop-name.vars)
    c.in-Some.ensures.steps c.loop-name.invariant)
    _ c.in_ok-copy_if.ensures

pub returns-clause-copied : goal.returns-clause-copied
returns-clause-copied c = λ name so.
    let Skips : List ℕ → Type 0 = λ name. is_boot_name name ≡ c.args.boot → ⊥ in
    let done = subst (λ (left : List (List ℕ × List ℕ)). IsGoing Skips c.args.vars.now c.args.from.now left c.loop-name.vars)
    c.in-None.ensures.steps.0 c.loop-name.invariant in
    done.taken name (λ skipped. skipped so)

pub returns-clause-kept : goal.returns-clause-kept
returns-clause-kept c = c.loop-name.invariant.skipped
