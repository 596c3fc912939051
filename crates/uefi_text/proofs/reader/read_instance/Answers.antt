use Rattle.std.proofs.Common.{length, length-append, length-take, length-drop, ap, sym, true≢false, ◌∙◌, arith, ℕ}
use Rattle.uefi_text.proofs.Read.Instances.{reading_more, reading_done}
use Rattle.uefi_text.proofs.reader.read_instance.Goals as goal

pub returns-then-ends_instance-2-clause-found : goal.returns-then-ends_instance-2-clause-found
returns-then-ends_instance-2-clause-found c =
    reading_done c.args.text.now c.loop-nodes.nodes.items _ c.loop-nodes.rest.now c.in_ok-node.node
    c.in_ok-node.behind.now c.loop-nodes.invariant.0 c.in_ok-node.ensures.found c.in_ok-push.ensures.items
    (c.ends_instance-in-loop-nodes.ensures.0 c.if-ends_instance-2.true)

pub loop-nodes-preserved : goal.loop-nodes-preserved
loop-nodes-preserved c =
    let read = c.in_ok-node.ensures.found in
    let behind = c.in_ok-node.behind.now in
    let goes = λ (ends : _). true≢false (sym (c.ends_instance-in-loop-nodes.ensures.1 ends) ∙ c.if-ends_instance-2.false) in (
      reading_more c.args.text.now c.loop-nodes.nodes.items _ c.loop-nodes.rest.now c.in_ok-node.node behind
          c.loop-nodes.invariant.0 read c.in_ok-push.ensures.items goes,
      omega (arith, length-take {A = ℕ}, length-drop {A = ℕ}, c.loop-nodes.invariant.1, simp length-append at (ap length read.parts)),
    )
