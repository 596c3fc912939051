use Rattle.bootkeep_c.specs.Notes.{IsNotesFailure}
use Rattle.bootkeep_c.specs.Noted.{ran_by, IsSameAt, IsNoFrame}
use Rattle.bootkeep_c.proofs.Answering.{finds_value}
use Rattle.bootkeep_c.proofs.moves_notes.tell_same.Goals as goal

pub returns : goal.returns
returns c =
    let given = c.args in
    let ran = ran_by given.session.now.wanted given.session.now.ended in
    finds_value (IsSameAt given.notes.now ran given.place) (IsNoFrame given.notes.now ran given.place) (IsNotesFailure given.notes.now)
    c.same_at.result c.tell_found.result given.same.now c.tell_found.new.to given.refusal.now c.tell_found.new.refusal
    (rw c.ran_of.ensures at c.same_at.ensures.found) (rw c.ran_of.ensures at c.same_at.ensures.none)
    c.same_at.ensures.fault
    c.tell_found.ensures.told c.tell_found.ensures.none c.tell_found.ensures.fault
