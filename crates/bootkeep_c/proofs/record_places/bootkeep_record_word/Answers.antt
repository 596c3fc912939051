use Rattle.bootkeep_c.specs.Records.{IsRecordFailure, IsWordIn, HasNoWord}
use Rattle.bootkeep_c.proofs.Answering.{finds}
use Rattle.bootkeep_c.proofs.record_places.bootkeep_record_word.Goals as goal

pub returns : goal.returns
returns c =
    let given = c.args in
    finds (λ bytes. bytes.items) (IsWordIn given.bytes.now given.number) (HasNoWord given.bytes.now given.number) (IsRecordFailure given.bytes.now)
    c.word_in-found.result c.answer_found.result given.out.now c.answer_found.new.out given.len.now c.answer_found.new.len
    given.refusal.now c.answer_found.new.refusal
    c.word_in-found.ensures.found c.word_in-found.ensures.none c.word_in-found.ensures.fault
    c.answer_found.ensures.given c.answer_found.ensures.none c.answer_found.ensures.told
