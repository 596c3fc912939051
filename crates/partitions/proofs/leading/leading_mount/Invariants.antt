use Rattle.std.proofs.Common.{MatchOption, take}
use Rattle.partitions.specs.Leading.{IsLeading, LeadsToNone}
use Rattle.partitions.proofs.leading.leading_mount.Given as goal

abbrev pub invariant-loop-mount : goal.invariant-loop-mount
invariant-loop-mount l =
    MatchOption l.leading (LeadsToNone (take l.mount-index l.mounts) l.path)
    (λ mount. IsLeading (take l.mount-index l.mounts) l.path mount.now)
