use Rattle.std.proofs.Common.{◌≡◌, ◌≤◌, ◌-◌, false, vec_len}
use Rattle.std.specs.Io.KnownBytes.{Consumes}
use Rattle.boot_commands.proofs.transfer.fill.Given as goal

-- what was read is a prefix of what there was, at most one byte over the limit, and no read failed
abbrev pub invariant-loop-bytes : goal.invariant-loop-bytes
invariant-loop-bytes g l =
    Consumes (g.R.Source.remaining l.fn.reader) (g.R.Source.remaining l.reader) l.bytes.items
    × (g.R.Source.failed l.reader ≡ false)
    × (vec_len l.bytes ≤ 67108865)

abbrev pub decreases-loop-bytes : goal.decreases-loop-bytes
decreases-loop-bytes g l = 67108865 - vec_len l.bytes
