use Rattle.std.proofs.Common.{◌<◌, length, arith}
use Rattle.std.proofs.lemmas.Slice.{first_rest}
use Rattle.partitions.proofs.Escapes.{unescaped_more}
use Rattle.partitions.proofs.mount.unescaped.Goals as goal

pub loop-rest-preserved : goal.loop-rest-preserved
loop-rest-preserved c =
    let rest = c.loop-rest.rest.now in
    let some : 0 < length rest = omega (arith, c.in-len1-up.len_at_least) in
    let parts = first_rest rest 0 some in
    rw c.in_ok-push.ensures.items
    (unescaped_more c.loop-rest.bytes.items rest _ _ c.in-Some.byte c.in-Some.behind.now _ c.loop-rest.invariant parts c.in-Some.ensures.0)
