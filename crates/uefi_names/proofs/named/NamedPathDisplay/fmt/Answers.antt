use Rattle.uefi_names.specs.Named.{shown_instance}
use Rattle.std.proofs.Common.{refl}
use Rattle.std.proofs.Output.{has_written_append, has_written_of_eq}
use Rattle.uefi_names.proofs.Texts.{path-joined}
use Rattle.uefi_names.proofs.named.NamedPathDisplay.fmt.Goals as goal

pub returns-clause-writes : goal.returns-clause-writes
returns-clause-writes g c = λ plain ok.
    let wrote = rw c.deref.ensures.value at (c.in_ok-write.ensures.writes plain refl) in
    has_written_of_eq _ _ _ _ _
    (path-joined (shown_instance c.args.self.now.table.now) (λ nodes. nodes.items) c.args.self.now.path.now c.instances.result.now c.in-Some.first.now c.in-Some.others.now c.loop-nodes.nodes-index
    c.instances.ensures.items c.in-Some.ensures.cases.0 c.loop-nodes-test.false)
    (has_written_append _ _ _ _ _ _ wrote (c.loop-nodes.invariant wrote.plain))
