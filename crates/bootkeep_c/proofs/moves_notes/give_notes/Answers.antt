use Rattle.bootkeep_c.specs.Notes.{IsNotesFailure}
use Rattle.bootkeep_c.specs.Noted.{ran_by, AreNotesAfter, HasNotRun}
use Rattle.bootkeep_c.proofs.Answering.{finds}
use Rattle.bootkeep_c.proofs.moves_notes.give_notes.Goals as goal

pub returns : goal.returns
returns c =
    let given = c.args in
    let ran = ran_by given.session.now.wanted given.session.now.ended in
    finds (λ bytes. bytes.items) (AreNotesAfter given.notes.now ran) (HasNotRun ran) (IsNotesFailure given.notes.now)
    c.notes_after-found.result c.answer_found.result given.out.now c.answer_found.new.out given.len.now c.answer_found.new.len
    given.refusal.now c.answer_found.new.refusal
    (rw c.ran_of.ensures at c.notes_after-found.ensures.found) (rw c.ran_of.ensures at c.notes_after-found.ensures.none)
    c.notes_after-found.ensures.fault
    c.answer_found.ensures.given c.answer_found.ensures.none c.answer_found.ensures.told
