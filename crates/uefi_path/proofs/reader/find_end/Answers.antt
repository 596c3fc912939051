use Rattle.std.proofs.Common.{◌≢◌, ◌⊎◌, inl, inr}
use Rattle.uefi_path.specs.Views.{row_seen}
use Rattle.uefi_path.proofs.Rowed.{one_row, path_ends}
use Rattle.uefi_path.proofs.reader.find_end.Goals as goal
use Rattle.uefi_path.proofs.reader.find_end.Goals.{else-node-eq-END-via-then-node-eq-END+else-node, else-node-eq-END-via-else-node-eq-END}

pub returns-then-node-clause-found : goal.returns-then-node-clause-found
returns-then-node-clause-found c =
    path_ends c.args.bytes.now c.loop-node.rest.now c.in_ok-node.behind.now
    (row_seen c.in_ok-node.node) c.loop-node.invariant c.in_ok-node.ensures.found c.if-node-eq-END.true c.if-node.true

pub loop-node-preserved : goal.loop-node-preserved
loop-node-preserved c =
    let node = c.in_ok-node.node in
    let more : (node.kind ≢ 127) ⊎ (node.sub ≢ 255) = elim c.else-node-eq-END.branch [
      | else-node-eq-END-via-then-node-eq-END+else-node w ↦
          inr w.if-node.false
      | else-node-eq-END-via-else-node-eq-END w ↦ inl w.if-node-eq-END.false
    ] in
    one_row c.args.bytes.now c.loop-node.rest.now c.in_ok-node.behind.now (row_seen node) c.loop-node.invariant c.in_ok-node.ensures.found more
