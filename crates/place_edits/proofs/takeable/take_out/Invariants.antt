use Rattle.place_edits.specs.Takeable.{AreOut}
use Rattle.place_edits.proofs.takeable.take_out.Given as goal

-- so far, too, only these entries are gone
abbrev pub invariant-loop-entry : goal.invariant-loop-entry
invariant-loop-entry l = AreOut l.entries l.fn.vars l.vars
