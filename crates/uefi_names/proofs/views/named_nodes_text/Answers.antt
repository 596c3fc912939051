use Rattle.std.proofs.Common.{◌≡◌, ◌++◌, ◌∷◌, [], rules, ◌∙◌}
use Rattle.std.specs.String.{string_bytes}
use Rattle.uefi_path.specs.Views.{row_seen, rows_left}
use Rattle.uefi_text.specs.Segment.{comma}
use Rattle.uefi_names.proofs.Left.{all-left, end-done, node-done, all-done}
use Rattle.uefi_names.proofs.StandardRead.{standard-text}
use Rattle.uefi_names.proofs.views.named_nodes_text.Goals as goal

pub loop-view-init : goal.loop-view-init
loop-view-init c = λ path is e.
    rw (c.new-text.ensures.bytes, c.into_iter-view-iterator.ensures.into_iter_gives) (all-left c.standard-table.result path (rows_left c.args.nodes) is e)

pub loop-view-preserved-then-view-eq-END : goal.loop-view-preserved-then-view-eq-END
loop-view-preserved-then-view-eq-END c = λ path is e.
    let pushed : string_bytes c.push.new.self ≡ string_bytes c.loop-view.text ++ (comma ∷ []) = search rules in
    rw pushed (end-done c.standard-table.result path _ _ (row_seen c.in-Some.view) _ _ c.in-Some.ensures.steps c.if-view-eq-END.true (c.loop-view.invariant path is e))

pub loop-view-preserved : goal.loop-view-preserved
loop-view-preserved c = λ path is e.
    node-done c.standard-table.result path _ _ _ (row_seen c.in-Some.view) _ _ c.in-Some.ensures.steps c.if-view-eq-END.false c.in_ok-append_node.ensures (c.loop-view.invariant path is e)

pub returns : goal.returns
returns c = λ path is e.
    all-done c.standard-table.result path _ _ _ c.in-None.ensures.steps.0 (c.loop-view.invariant path is e) ∙ standard-text c.standard-table.result c.standard-table.ensures.rows path
