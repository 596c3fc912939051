use Rattle.bootkeep_c.specs.Descriptions.{HasDescription, IsDescriptionFailure}
use Rattle.bootkeep_c.proofs.Answering.{answers}
use Rattle.bootkeep_c.proofs.description.bootkeep_option_description_utf8.Goals as goal

pub returns : goal.returns
returns c =
    let given = c.args in
    answers (λ text. text.items) (HasDescription given.bytes.now) (IsDescriptionFailure given.bytes.now)
    c.description_of-made.result c.answer.result given.out.now c.answer.new.out given.len.now c.answer.new.len given.refusal.now c.answer.new.refusal
    c.description_of-made.ensures.made c.description_of-made.ensures.fault c.answer.ensures.given c.answer.ensures.told
