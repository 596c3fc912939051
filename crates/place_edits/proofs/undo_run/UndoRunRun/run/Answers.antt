-- The change that is undone is the last one, and a failure is one of undoing it.
use Rattle.std.proofs.Common.{map}
use Rattle.std.specs.String.{string_bytes}
use Rattle.std.proofs.lemmas.Result.{err_from_is_err_and}
use Rattle.place_edits.proofs.Undoing.{failed_is_fault, refused_weaker}
use Rattle.place_edits.proofs.undo_run.UndoRunRun.run.Goals as goal

pub returns-in_err-undone-clause-refused : goal.returns-in_err-undone-clause-refused
returns-in_err-undone-clause-refused g c =
    let run = c.args.self in
    let last = c.in_ok-kept.ensures.last in
    let p = err_from_is_err_and c.from_residual-in_err-undone.result c.from_residual-in_err-undone.ensures.1 in
    rw (p.1, p.2)
    (refused_weaker c.in_err-undone.field-0.0 _ _
    (failed_is_fault run.words.now.force run.words.now.dry_run run.changes.now (map string_bytes run.seen.now.left_out.now)
    c.args.vars.now c.in_ok-kept.kept.now last.0 last.1)
    c.in_err-undone.ensures.refused)

pub returns-clause-done : goal.returns-clause-done
returns-clause-done g c =
    let last = c.in_ok-kept.ensures.last in
    let undone = c.in_ok-undone.ensures in (
      (c.in_ok-kept.kept.now, last.0, last.1, (undone.number, undone.before, undone.back)),
      c.in_ok-to.ensures,
    )
