use Rattle.std.proofs.Common.{refl}
use Rattle.value_texts.proofs.Descriptions.{no_unit}
use Rattle.value_texts.proofs.description.unit_at.Goals as goal

pub returns-in_err-unit-clause-none : goal.returns-in_err-unit-clause-none
returns-in_err-unit-clause-none c = λ none.
    no_unit c.args.text.now c.in_ok-digits.digits.now c.in_ok-digits.ensures.cases.0 (c.in_err-unit.ensures.none refl)
