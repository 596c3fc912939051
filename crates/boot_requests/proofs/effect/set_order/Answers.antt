use Rattle.std.proofs.Common.{sym, ap, ◌∙◌}
use Rattle.std.proofs.lemmas.Bool.{cond-true, cond-false}
use Rattle.boot_requests.specs.Outcome.{without_entry}
use Rattle.boot_requests.proofs.effect.set_order.Goals as goal

pub returns-then-repeated : goal.returns-then-repeated
returns-then-repeated c = rw c.of.ensures (λ m h. (ap without_entry (sym (cond-true _ _ _ (sym c.in_ok-repeated.ensures ∙ c.if-repeated.true))), h))

pub returns-then-not-are_there : goal.returns-then-not-are_there
returns-then-not-are_there c =
    rw c.of-then-not-are_there.ensures
    (λ m h. (
      ap without_entry
          (sym (cond-false _ _ _ (sym c.in_ok-repeated.ensures ∙ c.if-repeated.false)
          ∙ cond-false _ _ _ (sym (c.are_there.ensures m h) ∙ c.if-not-are_there.true))),
      h,
    ))

pub returns : goal.returns
returns c =
    rw c.of-2.ensures
    (λ m h. (
      ap without_entry
          (sym (cond-false _ _ _ (sym c.in_ok-repeated.ensures ∙ c.if-repeated.false)
          ∙ cond-true _ _ _ (sym (c.are_there.ensures m h) ∙ c.if-not-are_there.false))),
      c.in_ok-store_order.ensures c.args.vars.now m h,
    ))
