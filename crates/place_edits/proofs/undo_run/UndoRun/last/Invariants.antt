use Rattle.std.proofs.Common.{map}
use Rattle.std.specs.String.{string_bytes}
use Rattle.place_edits.specs.Undo.{ArePassedOver}
use Rattle.place_edits.proofs.undo_run.UndoRun.last.Given as goal

-- the changes so far are passed over
abbrev pub invariant-loop-change : goal.invariant-loop-change
invariant-loop-change g l = ArePassedOver l.changes (map string_bytes l.self.seen.now.left_out.now) l.vars l.change-index
