use Rattle.std.proofs.Common.{length}
use Rattle.boot_texts.proofs.shown_vars.append_paths.Given as goal

abbrev pub decreases-loop-first : goal.decreases-loop-first
decreases-loop-first l = length l.rest
