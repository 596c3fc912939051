use Rattle.std.proofs.Common.{refl}
use Rattle.std.proofs.Output.{has_written_append, has_written_of_eq}
use Rattle.uefi_text.proofs.Bytes.Printer.{instance_written}
use Rattle.uefi_text.proofs.print_path.InstanceTextDisplay.fmt.Goals as goal

pub returns-clause-writes : goal.returns-clause-writes
returns-clause-writes g c = λ plain ok.
    let wrote = c.in_ok-write.ensures.writes plain refl in
    has_written_of_eq _ _ _ _ _
    (instance_written c.args.self.now.0.now c.in-Some.first.now c.in-Some.others.now c.loop-node.node-index c.in-Some.ensures.cases.0 c.loop-node-test.false)
    (has_written_append _ _ _ _ _ _ wrote (c.loop-node.invariant wrote.plain))
