use Rattle.bootkeep_c.specs.Edits.{IsSetEdited, IsSetUnedited}
use Rattle.bootkeep_c.proofs.Answering.{answers_edit}
use Rattle.bootkeep_c.proofs.edit.bootkeep_vars_edit.Goals as goal

pub returns-clause-answers : goal.returns-clause-answers
returns-clause-answers c = λ large wide.
    let given = c.args in
    answers_edit (IsSetEdited given.edit.now given.numbers.now given.option.now given.set.now)
    (IsSetUnedited given.edit.now given.numbers.now given.option.now given.set.now)
    c.edited_set-made.result c.answer_edit.result given.out.now c.answer_edit.new.out given.len.now c.answer_edit.new.len
    given.edited.now c.answer_edit.new.edited given.refusal.now c.answer_edit.new.refusal
    c.edited_set-made.ensures.made c.edited_set-made.ensures.fault c.answer_edit.ensures.given c.answer_edit.ensures.told
