use Rattle.std.proofs.Common.{◌≡◌, ◌*◌, ◌/◌, ◌<◌, arith}
use Rattle.partitions.proofs.Blocks.{same_bytes, node_blocks}
use Rattle.partitions.proofs.partition.Partition.node.Goals as goal

pub returns-clause-whole_blocks : goal.returns-clause-whole_blocks
returns-clause-whole_blocks c =
    let p = c.args.self.now in
    let per = p.block_size / 512 in
    let some : 0 < per = omega arith in
    let is : p.block_size ≡ 512 * per = omega arith in
    rw c.node_at.ensures (node_blocks p (p.start / per) (p.size / per) p.id
    (same_bytes p.start p.block_size per some is c.if-self-sectors-ne0.false)
    (same_bytes p.size p.block_size per some is c.if-self-sectors-ne0-2.false))
