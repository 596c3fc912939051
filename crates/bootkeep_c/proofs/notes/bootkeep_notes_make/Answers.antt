use Rattle.bootkeep_c.specs.Notes.{AreNewNotes, HasBadIdentity}
use Rattle.bootkeep_c.proofs.Answering.{answers}
use Rattle.bootkeep_c.proofs.notes.bootkeep_notes_make.Goals as goal

pub returns : goal.returns
returns c =
    let given = c.args in
    answers (λ bytes. bytes.items) (AreNewNotes given.identity.now) (HasBadIdentity given.identity.now)
    c.new_notes-made.result c.answer.result given.out.now c.answer.new.out given.len.now c.answer.new.len given.refusal.now c.answer.new.refusal
    c.new_notes-made.ensures.made c.new_notes-made.ensures.fault c.answer.ensures.given c.answer.ensures.told
