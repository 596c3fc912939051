use Rattle.boot_notes.specs.Bytes.{HasNoNotes}
use Rattle.bootkeep_c.specs.Notes.{IsIdentityIn, IsNotesFailure}
use Rattle.bootkeep_c.proofs.Answering.{finds}
use Rattle.bootkeep_c.proofs.notes.bootkeep_notes_identity.Goals as goal

pub returns : goal.returns
returns c =
    let given = c.args in
    finds (λ bytes. bytes.items) (IsIdentityIn given.notes.now) (HasNoNotes given.notes.now) (IsNotesFailure given.notes.now)
    c.identity_in-found.result c.answer_found.result given.out.now c.answer_found.new.out given.len.now c.answer_found.new.len
    given.refusal.now c.answer_found.new.refusal
    c.identity_in-found.ensures.found c.identity_in-found.ensures.none c.identity_in-found.ensures.fault
    c.answer_found.ensures.given c.answer_found.ensures.none c.answer_found.ensures.told
