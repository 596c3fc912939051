use Rattle.std.proofs.Common.{◌≡◌, ◌+◌, ◌%◌, length}
use Rattle.var_stores.specs.Volume.{word_sum}
use Rattle.var_stores.proofs.volume.word_sum.Given as goal

abbrev pub invariant-loop-rest : goal.invariant-loop-rest
invariant-loop-rest l = (l.sum + word_sum l.rest) % 65536 ≡ word_sum l.bytes

abbrev pub decreases-loop-rest : goal.decreases-loop-rest
decreases-loop-rest l = length l.rest
