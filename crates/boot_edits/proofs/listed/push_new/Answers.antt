use Rattle.std.proofs.Common.{sym, ◌∙◌}
use Rattle.std.proofs.lemmas.Bool.{cond-true, cond-false, not-true, not-false}
use Rattle.boot_edits.proofs.Sets.{tells_kept}
use Rattle.boot_edits.proofs.listed.push_new.Goals as goal

pub returns-then-not-new : goal.returns-then-not-new
returns-then-not-new c = λ tells.
    let met = c.in_ok-new.ensures c.args.numbers.now.items tells in
    let there = not-false _ (sym met.0 ∙ c.if-not-new.true) in
    (sym (cond-true _ _ _ there), tells_kept _ _ _ there met.1)

pub returns : goal.returns
returns c = λ tells.
    let met = c.in_ok-new.ensures c.args.numbers.now.items tells in
    let new = not-true _ (sym met.0 ∙ c.if-not-new.false) in
    (c.in_ok-push.ensures.items ∙ sym (cond-false _ _ _ new), rw c.in_ok-push.ensures.items met.1)
