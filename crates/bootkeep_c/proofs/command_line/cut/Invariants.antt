-- The words that were cut off, and what is left, are the bytes; what is left gets shorter.
use Rattle.std.proofs.Common.{length, map}
use Rattle.bootkeep_c.proofs.WordsOfLines.{IsCutTo}
use Rattle.bootkeep_c.proofs.command_line.cut.Given as goal

abbrev pub invariant-loop-rest : goal.invariant-loop-rest
invariant-loop-rest l = IsCutTo l.bytes (map (λ w. w.now) l.words.items) l.rest

abbrev pub decreases-loop-rest : goal.decreases-loop-rest
decreases-loop-rest l = length l.rest
