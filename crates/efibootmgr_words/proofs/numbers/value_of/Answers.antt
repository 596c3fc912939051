use Rattle.std.proofs.Common.{◌+◌, ◌*◌, ℕ, ap, ◌∙◌}
use Rattle.std.specs.Prelude.{min}
use Rattle.efibootmgr_words.proofs.Saturated.{value_step}
use Rattle.efibootmgr_words.proofs.numbers.value_of.Goals as goal

pub loop-digit-preserved : goal.loop-digit-preserved
loop-digit-preserved c =
    let digit = c.from-in-loop-digit.result in
    c.saturating_add-value.ensures
    ∙ ap (λ (n : ℕ). min (n + digit) 0xFFFFFFFF) c.saturating_mul.ensures
    ∙ ap (λ (n : ℕ). min (min (c.loop-digit.value * n) 0xFFFFFFFF + digit) 0xFFFFFFFF) c.from.ensures
    ∙ value_step c.args.base c.loop-digit.value digit c.args.digits.now c.loop-digit.digit-index c.requires c.loop-digit.invariant c.loop-digit-test.true
    (c.from-in-loop-digit.ensures ∙ c.digit_of.ensures)
