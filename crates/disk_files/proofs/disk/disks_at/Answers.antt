use Rattle.std.proofs.Common.{List, take, ◌++◌, ◌∷◌, [], sym, subst, ap, ◌∙◌}
use Rattle.std.proofs.lemmas.List.{take_more}
use Rattle.disk_files.specs.Disk.{IsDiskSearch, those_at}
use Rattle.disk_files.specs.declared.disk.FoundDisk.{FoundDisk}
use Rattle.disk_files.proofs.disk.disks_at.Goals as goal

pub loop-next-preserved : goal.loop-next-preserved
loop-next-preserved c =
    let disks = c.args.disks.now in
    let at = c.loop-next.next-index in
    let next = c.next-item.result in
    let more = take_more disks at next c.loop-next-test.true
    ∙ ap (λ (item : FoundDisk). take at disks ++ item ∷ []) (sym c.next-item.is) in
    let family : List FoundDisk → Type 0 = λ xs. IsDiskSearch (those_at c.args.path.now xs) c.with_next-search.result in
    subst family (sym more) (c.with_next-search.ensures (take at disks) c.loop-next.invariant)
