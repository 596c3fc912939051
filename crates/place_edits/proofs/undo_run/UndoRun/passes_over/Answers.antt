-- What is kept of a change that is passed over can't be taken away.
use Rattle.std.proofs.Common.{map, subst}
use Rattle.std.specs.String.{string_bytes}
use Rattle.change_records.specs.declared.stands.Standing.{Standing}
use Rattle.place_edits.specs.Undo.{IsCounted}
use Rattle.place_edits.proofs.Undoing.{not_forgotten}
use Rattle.place_edits.proofs.undo_run.UndoRun.passes_over.Goals as goal

pub returns-in-Err-clause-refused : goal.returns-in-Err-clause-refused
returns-in-Err-clause-refused g c =
    let words = c.args.self.now.words.now in
    let left_out = map string_bytes c.args.self.now.seen.now.left_out.now in
    let vars = c.args.vars.now in
    let kept = c.args.change.now in
    not_forgotten words.force words.dry_run left_out vars kept
    (subst (λ (s : Standing). IsCounted left_out kept.«record» vars s) c.in-NotMade.is c.in_ok-standing.ensures)
    c.in-Err.error c.in-Err.ensures
