use Rattle.std.proofs.Common.{◌≡◌, ℕ, List, sym, ap, subst, ◌∙◌}
use Rattle.std.specs.FinMap.{entries, empty, get-empty}
use Rattle.uefi_vars.specs.Iter.{variables_left}
use Rattle.uefi_vars.specs.Vars.{name_cmp}
use Rattle.boot_edits.specs.Steps.{IsNameOf}
use Rattle.boot_edits.proofs.Taken.{IsGoing, begin, step}
use Rattle.boot_edits.proofs.entries.without_entries.Goals as goal

pub loop-name-init : goal.loop-name-init
loop-name-init c = λ numbers tells.
    let vars = c.args.vars.now in
    let all : variables_left c.into_iter-name-iterator.result ≡ entries vars =
    ap variables_left c.into_iter-name-iterator.ensures.into_iter_gives ∙ c.iter-name-items.ensures.items in
    subst (λ (left : List (List ℕ × List ℕ)). IsGoing (IsNameOf numbers) empty vars left c.new-others.result) (sym all)
    (subst (IsGoing (IsNameOf numbers) empty vars (entries vars)) (sym c.new-others.ensures)
    (begin (IsNameOf numbers) empty vars (λ name taken. get-empty name_cmp name)))

pub loop-name-preserved : goal.loop-name-preserved
loop-name-preserved c = λ numbers tells.
    step (IsNameOf numbers) empty c.args.vars.now _ _ _
    (subst (λ (left : List (List ℕ × List ℕ)). IsGoing (IsNameOf numbers) empty c.args.vars.now left c.loop-name.others)
    c.in-Some.ensures.steps (c.loop-name.invariant numbers tells))
    _ (c.in_ok-copy_unlisted.ensures numbers tells)

pub returns : goal.returns
returns c = λ numbers tells.
    let done = subst (λ (left : List (List ℕ × List ℕ)). IsGoing (IsNameOf numbers) empty c.args.vars.now left
    c.loop-name.others) c.in-None.ensures.steps.0 (c.loop-name.invariant numbers tells) in
    record { out = λ name named. done.skipped name named ∙ get-empty name_cmp name; kept = λ name other. done.taken name other }
