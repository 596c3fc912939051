use Rattle.bootkeep_c.specs.Records.{IsBackIn, IsUncompared}
use Rattle.bootkeep_c.proofs.Answering.{answers}
use Rattle.bootkeep_c.proofs.record_undo.bootkeep_record_back.Goals as goal

pub returns : goal.returns
returns c =
    let given = c.args in
    answers (λ bytes. bytes.items) (IsBackIn given.bytes.now given.set.now) (IsUncompared given.bytes.now given.set.now)
    c.back_in-made.result c.answer.result given.out.now c.answer.new.out given.len.now c.answer.new.len given.refusal.now c.answer.new.refusal
    c.back_in-made.ensures.made c.back_in-made.ensures.fault c.answer.ensures.given c.answer.ensures.told
