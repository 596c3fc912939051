-- What is undone is one of the changes that were read.
use Rattle.std.proofs.Common.{map}
use Rattle.std.specs.String.{string_bytes}
use Rattle.place_edits.proofs.Undoing.{failed, not_read, none_undone}
use Rattle.place_edits.proofs.undo.WantedUndoWanted.run.Goals as goal

pub returns-in-Err-clause-refused : goal.returns-in-Err-clause-refused
returns-in-Err-clause-refused g c =
    let words = c.args.self.now.words.now in
    not_read words.force words.dry_run (map string_bytes c.args.seen.now.left_out.now) c.args.vars.now c.call_error.result
    (failed c.call_error.result c.in-Err.failure c.call_error.ensures)

pub returns-clause-refused : goal.returns-clause-refused
returns-clause-refused g c =
    let words = c.args.self.now.words.now in
    none_undone words.force words.dry_run c.deref.result.now (map string_bytes c.args.seen.now.left_out.now) c.args.vars.now
    c.in-Err-run.error c.in-Err-run.ensures.refused
