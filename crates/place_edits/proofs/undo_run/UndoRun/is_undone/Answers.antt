use Rattle.place_edits.proofs.undo_run.UndoRun.is_undone.Goals as goal

pub returns : goal.returns
returns g c = (c.in_ok-back.back, c.in_ok-back.ensures, c.in_ok-there.ensures)
