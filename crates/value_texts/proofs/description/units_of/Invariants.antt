use Rattle.std.proofs.Common.{ℕ, length}
use Rattle.value_texts.specs.Description.{AreFronts}
use Rattle.value_texts.proofs.description.units_of.Given as goal

abbrev pub invariant-loop-first : goal.invariant-loop-first
invariant-loop-first l = (n : ℕ) × AreFronts n l.characters l.units.items l.rest

abbrev pub decreases-loop-first : goal.decreases-loop-first
decreases-loop-first l = length l.rest
