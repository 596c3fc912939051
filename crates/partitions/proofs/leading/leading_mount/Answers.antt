use Rattle.std.proofs.Common.{List, take, ◌++◌, ◌∷◌, [], sym, subst, ap, ◌∙◌}
use Rattle.std.specs.Prelude.{MatchOption}
use Rattle.std.proofs.lemmas.List.{take_more}
use Rattle.partitions.specs.Leading.{IsLeading, LeadsToNone}
use Rattle.partitions.specs.declared.mount.Mount.{Mount}
use Rattle.partitions.proofs.leading.leading_mount.Goals as goal

pub loop-mount-preserved : goal.loop-mount-preserved
loop-mount-preserved c =
    let mounts = c.args.mounts.now in
    let at = c.loop-mount.mount-index in
    let mount = c.mount-item.result in
    let more = take_more mounts at mount c.loop-mount-test.true
    ∙ ap (λ (item : Mount). take at mounts ++ item ∷ []) (sym c.mount-item.is) in
    let family : List Mount → Type 0 = λ xs. MatchOption c.leading_of-leading.result (LeadsToNone xs c.args.path.now)
    (λ one. IsLeading xs c.args.path.now one.now) in
    subst family (sym more) (c.leading_of-leading.ensures (take at mounts) c.loop-mount.invariant)
