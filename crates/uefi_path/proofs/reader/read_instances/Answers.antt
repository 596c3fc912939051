use Rattle.std.proofs.Common.{List, map, subst, refl}
use Rattle.std.proofs.lemmas.List.{map_push}
use Rattle.uefi_path.specs.declared.node.Node.{Node}
use Rattle.uefi_path.specs.Row.{Row}
use Rattle.uefi_path.specs.Reader.{node_of}
use Rattle.uefi_path.specs.Views.{row_seen, rows_left}
use Rattle.uefi_path.proofs.Readings.{HasMade, one_node, one_instance}
use Rattle.uefi_path.proofs.reader.read_instances.Goals as goal

pub loop-view-preserved-then-view-eq-END : goal.loop-view-preserved-then-view-eq-END
loop-view-preserved-then-view-eq-END c =
    let all = rows_left c.args.views in
    let instances : List (List Node) = map (λ nodes. nodes.items) c.loop-view.instances.items in
    let made = subst (λ (rows : List Row). HasMade all instances c.loop-view.nodes.items rows) c.in-Some.ensures.steps c.loop-view.invariant in
    rw (c.in_ok-push.ensures.items, map_push, c.new-nodes-then-view-eq-END.ensures.items)
    (one_instance all instances c.loop-view.nodes.items (row_seen c.in-Some.view)
    (rows_left c.next.new.self) made c.if-view-eq-END.true)

pub loop-view-preserved : goal.loop-view-preserved
loop-view-preserved c =
    let all = rows_left c.args.views in
    let instances : List (List Node) = map (λ nodes. nodes.items) c.loop-view.instances.items in
    let made = subst (λ (rows : List Row). HasMade all instances c.loop-view.nodes.items rows) c.in-Some.ensures.steps c.loop-view.invariant in
    rw c.in_ok-push_parts.ensures (one_node all instances c.loop-view.nodes.items (row_seen c.in-Some.view)
    (rows_left c.next.new.self) (node_of (row_seen c.in-Some.view)) made c.if-view-eq-END.false refl)
