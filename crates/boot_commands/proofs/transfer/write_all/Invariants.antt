use Rattle.std.proofs.Common.{◌≡◌, ◌++◌, false, List, ℕ, length}
use Rattle.std.specs.Io.KnownBytes.{Appends}
use Rattle.boot_commands.proofs.transfer.write_all.Given as goal

-- what was written is a prefix of the bytes, and no write failed
abbrev pub invariant-loop-rest : goal.invariant-loop-rest
invariant-loop-rest g l =
    ((front : List ℕ) × (l.bytes ≡ front ++ l.rest) × Appends (g.W.Sink.contents l.fn.writer) (g.W.Sink.contents l.writer) front)
    × (g.W.Sink.failed l.writer ≡ false)

abbrev pub decreases-loop-rest : goal.decreases-loop-rest
decreases-loop-rest g l = length l.rest
