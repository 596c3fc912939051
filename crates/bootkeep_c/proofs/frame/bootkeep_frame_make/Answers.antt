use Rattle.bootkeep_c.specs.Frames.{IsFrameOf, IsFrameFailure}
use Rattle.bootkeep_c.proofs.Answering.{answers}
use Rattle.bootkeep_c.proofs.frame.bootkeep_frame_make.Goals as goal

pub returns : goal.returns
returns c =
    let asked = c.args in
    answers (λ bytes. bytes.items) (IsFrameOf asked.number asked.kind asked.entry asked.option.now asked.order.now)
    (IsFrameFailure asked.number asked.kind asked.entry asked.option.now asked.order.now) c.frame_of-made.result c.answer.result
    asked.out.now c.answer.new.out asked.len.now c.answer.new.len
    asked.refusal.now c.answer.new.refusal c.frame_of-made.ensures.made c.frame_of-made.ensures.fault c.answer.ensures.given c.answer.ensures.told
