use Rattle.std.proofs.Common.{sym, ap, ◌∙◌}
use Rattle.std.proofs.lemmas.Bool.{cond-true, cond-false}
use Rattle.boot_requests.specs.Outcome.{without_entry}
use Rattle.boot_requests.proofs.effect.set_first.Goals as goal

pub returns-then-not-is_there : goal.returns-then-not-is_there
returns-then-not-is_there c = rw c.of.ensures (λ m h. (ap without_entry (sym (cond-false _ _ _ (sym (c.is_there.ensures m h) ∙ c.if-not-is_there.true))), h))

pub returns : goal.returns
returns c =
    rw c.of-2.ensures
    (λ m h. (ap without_entry (sym (cond-true _ _ _ (sym (c.is_there.ensures m h) ∙ c.if-not-is_there.false))), c.in_ok-put_first.ensures m h))
