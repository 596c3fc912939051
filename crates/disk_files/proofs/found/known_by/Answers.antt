use Rattle.std.proofs.Common.{List, take, ◌++◌, ◌∷◌, [], sym, subst, ap, ◌∙◌}
use Rattle.std.proofs.lemmas.List.{take_more}
use Rattle.disk_files.specs.Search.{AreKnown}
use Rattle.disk_files.specs.declared.found.FoundPartition.{FoundPartition}
use Rattle.disk_files.proofs.found.known_by.Goals as goal

pub loop-next-preserved : goal.loop-next-preserved
loop-next-preserved c =
    let partitions = c.args.partitions.now in
    let at = c.loop-next.next-index in
    let next = c.next-item.result in
    let more = take_more partitions at next c.loop-next-test.true
    ∙ ap (λ (item : FoundPartition). take at partitions ++ item ∷ []) (sym c.next-item.is) in
    let family : List FoundPartition → Type 0 = λ xs. AreKnown c.args.id xs c.with_next-known.result in
    subst family (sym more) (c.with_next-known.ensures (take at partitions) c.loop-next.invariant)
