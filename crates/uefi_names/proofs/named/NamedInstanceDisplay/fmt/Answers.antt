use Rattle.std.proofs.Common.{refl}
use Rattle.std.proofs.Output.{has_written_append, has_written_of_eq}
use Rattle.uefi_text.specs.Segment.{slash}
use Rattle.uefi_names.specs.Named.{shown_node}
use Rattle.uefi_names.proofs.Texts.{joined}
use Rattle.uefi_names.proofs.named.NamedInstanceDisplay.fmt.Goals as goal

pub returns-clause-writes : goal.returns-clause-writes
returns-clause-writes g c = λ plain ok.
    let wrote = c.in_ok-write.ensures.writes plain refl in
    has_written_of_eq _ _ _ _ _
    (joined slash (shown_node c.args.self.now.table.now) c.args.self.now.nodes.now c.in-Some.node.now c.in-Some.others.now c.loop-node.node-index c.in-Some.ensures.cases.0 c.loop-node-test.false)
    (has_written_append _ _ _ _ _ _ wrote (c.loop-node.invariant wrote.plain))
