-- Where something else has changed, it may be what undoing the change brought back.
use Rattle.std.proofs.Common.{map, subst}
use Rattle.std.specs.String.{string_bytes}
use Rattle.change_records.specs.declared.stands.Standing.{Standing}
use Rattle.place_edits.specs.Undo.{Stands}
use Rattle.place_edits.proofs.Undoing.{undone_over, not_undone}
use Rattle.place_edits.proofs.undo_run.UndoRun.standing.Goals as goal

pub returns-then-branch : goal.returns-then-branch
returns-then-branch g c =
    undone_over (map string_bytes c.args.self.now.seen.now.left_out.now) c.args.vars.now c.args.change.now
    c.in_ok-is_undone-in-Changed.field-0 c.if-branch.true
    (subst (λ (s : Standing). Stands c.args.change.now c.args.vars.now s) c.in-Changed.is c.in_ok-standing_of.ensures)
    c.in_ok-is_undone-in-Changed.ensures

pub returns-else-branch : goal.returns-else-branch
returns-else-branch g c =
    not_undone (map string_bytes c.args.self.now.seen.now.left_out.now) c.args.vars.now c.args.change.now
    c.in_ok-is_undone-in-Changed.field-0 c.if-branch.false
    (subst (λ (s : Standing). Stands c.args.change.now c.args.vars.now s) c.in-Changed.is c.in_ok-standing_of.ensures)
    c.in_ok-is_undone-in-Changed.ensures
