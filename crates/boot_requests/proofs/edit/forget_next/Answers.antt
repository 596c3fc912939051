use Rattle.std.proofs.Common.{ℕ, Option, sym, subst, ◌∙◌}
use Rattle.uefi_vars.specs.NameChanges.{with_changes}
use Rattle.boot_requests.specs.Keeper.{IsStateOf}
use Rattle.boot_requests.proofs.Variables.Edits.{next_named, next_other, next_kept, next_deleted}
use Rattle.boot_requests.proofs.edit.forget_next.Goals as goal

pub returns-then-not-names_next : goal.returns-then-not-names_next
returns-then-not-names_next c = λ m h. next_kept m _ _ (next_other m.boot_next c.args.number (sym (c.names_next.ensures m h) ∙ c.if-not-names_next.true)) h

pub returns : goal.returns
returns c = λ m h.
    subst (λ (o : Option ℕ). IsStateOf (record m { boot_next = o }) (with_changes c.args.vars.now c.remove.new.self))
    (sym (next_named m.boot_next c.args.number (sym (c.names_next.ensures m h) ∙ c.if-not-names_next.false)))
    (next_deleted m _ _ (c.in_ok-remove.ensures.removed c.args.vars.now) h)
