use Rattle.bootkeep_c.specs.Notes.{TakesNotes, IsNotesFailure}
use Rattle.bootkeep_c.proofs.Answering.{tells_value}
use Rattle.bootkeep_c.proofs.notes.bootkeep_notes_len.Goals as goal

pub returns : goal.returns
returns c =
    let given = c.args in
    tells_value (TakesNotes given.notes.now) (IsNotesFailure given.notes.now) c.taken_of.result c.tell.result
    given.taken.now c.tell.new.to given.refusal.now c.tell.new.refusal
    c.taken_of.ensures.found c.taken_of.ensures.fault c.tell.ensures.told c.tell.ensures.fault
