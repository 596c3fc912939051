use Rattle.place_edits.proofs.undo_run.UndoRun.back.Goals as goal

pub returns : goal.returns
returns g c = record { wanted = c.in_ok-wanted.wanted; is = c.in_ok-wanted.ensures; brought = c.in_ok-back.ensures }
