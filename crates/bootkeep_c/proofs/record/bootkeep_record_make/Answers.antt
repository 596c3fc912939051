use Rattle.bootkeep_c.specs.Records.{IsRecordMade, IsUnmade}
use Rattle.bootkeep_c.proofs.Answering.{answers}
use Rattle.bootkeep_c.proofs.record.bootkeep_record_make.Goals as goal

pub returns : goal.returns
returns c =
    let given = c.args in
    answers (λ bytes. bytes.items) (IsRecordMade given.machine.now given.time given.before.now given.after.now given.words.now) (IsUnmade given.machine.now given.time given.before.now given.after.now given.words.now)
    c.record_bytes-made.result c.answer.result given.out.now c.answer.new.out given.len.now c.answer.new.len given.refusal.now c.answer.new.refusal
    c.record_bytes-made.ensures.made c.record_bytes-made.ensures.fault c.answer.ensures.given c.answer.ensures.told
