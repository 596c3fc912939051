use Rattle.bootkeep_c.specs.Making.{IsOptionOfUnits, IsUnitsFailure}
use Rattle.bootkeep_c.proofs.Answering.{answers}
use Rattle.bootkeep_c.proofs.making.bootkeep_option_make_units.Goals as goal

pub returns : goal.returns
returns c =
    let parts = c.args in
    answers (λ bytes. bytes.items) (IsOptionOfUnits parts.attributes parts.units.now parts.list.now parts.optional.now)
    (IsUnitsFailure parts.units.now parts.list.now)
    c.option_of_units-made.result c.answer.result parts.out.now c.answer.new.out parts.len.now c.answer.new.len parts.refusal.now c.answer.new.refusal
    c.option_of_units-made.ensures.made c.option_of_units-made.ensures.fault c.answer.ensures.given c.answer.ensures.told
