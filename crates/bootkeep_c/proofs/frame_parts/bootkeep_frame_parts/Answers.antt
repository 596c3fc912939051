use Rattle.bootkeep_c.proofs.AnsweringFrames.{answers_frame}
use Rattle.bootkeep_c.proofs.frame_parts.bootkeep_frame_parts.Goals as goal

pub returns-clause-answers : goal.returns-clause-answers
returns-clause-answers c = λ large.
    let given = c.args in
    answers_frame given.frame.now c.frame_read-read.result c.answer_frame.result given.numbers.now c.answer_frame.new.numbers
    given.len.now c.answer_frame.new.len given.parts.now c.answer_frame.new.parts given.refusal.now c.answer_frame.new.refusal
    c.frame_read-read.ensures.found c.frame_read-read.ensures.fault c.answer_frame.ensures.given c.answer_frame.ensures.told
