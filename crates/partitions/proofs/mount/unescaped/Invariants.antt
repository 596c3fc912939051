use Rattle.std.proofs.Common.{◌≡◌, length}
use Rattle.partitions.specs.Escape.{unescaped}
use Rattle.partitions.proofs.Escapes.{behind}
use Rattle.partitions.proofs.mount.unescaped.Given as goal

abbrev pub invariant-loop-rest : goal.invariant-loop-rest
invariant-loop-rest l = behind l.bytes.items (unescaped l.rest) ≡ unescaped l.field

abbrev pub decreases-loop-rest : goal.decreases-loop-rest
decreases-loop-rest l = length l.rest
