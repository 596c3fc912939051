-- The change at which it ends is the last one that isn't passed over.
use Rattle.std.proofs.Common.{inr, map, arith}
use Rattle.std.specs.String.{string_bytes}
use Rattle.std.proofs.lemmas.Result.{err_from_is_err_and}
use Rattle.place_edits.proofs.Undoing.{passed_more, last_here, refused_weaker}
use Rattle.place_edits.proofs.undo_run.UndoRun.last.Goals as goal

pub returns-in_err-passes_over-clause-refused : goal.returns-in_err-passes_over-clause-refused
returns-in_err-passes_over-clause-refused g c =
    let p = err_from_is_err_and c.from_residual.result c.from_residual.ensures.1 in
    let last = last_here c.args.self.now.changes.now (map string_bytes c.args.self.now.seen.now.left_out.now) c.args.vars.now c.loop-change.change-index c.change-item.result
    (omega arith) c.change-item.is c.loop-change.invariant in
    rw (p.1, p.2)
    (refused_weaker c.in_err-passes_over.field-0.0 _ _ (λ fault is. inr (c.change-item.result, last, is)) c.in_err-passes_over.ensures.refused)

pub returns-then-not-branch-clause-last : goal.returns-then-not-branch-clause-last
returns-then-not-branch-clause-last g c = (
  last_here c.args.self.now.changes.now (map string_bytes c.args.self.now.seen.now.left_out.now) c.args.vars.now c.loop-change.change-index c.change-item.result (omega arith) c.change-item.is c.loop-change.invariant,
  c.in_ok-passes_over.ensures.last c.if-not-branch.true,
)

pub loop-change-preserved : goal.loop-change-preserved
loop-change-preserved g c =
    passed_more c.args.self.now.changes.now (map string_bytes c.args.self.now.seen.now.left_out.now) c.args.vars.now c.loop-change.change-index c.change-item.result (omega arith)
    c.change-item.is c.loop-change.invariant
    (c.in_ok-passes_over.ensures.over c.if-not-branch.false)
