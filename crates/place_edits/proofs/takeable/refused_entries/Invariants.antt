use Rattle.std.specs.List.{AllByRecursion}
use Rattle.place_edits.specs.Takeable.{IsRefused}
use Rattle.place_edits.proofs.takeable.refused_entries.Given as goal

-- each so far is refused
abbrev pub invariant-loop-name : goal.invariant-loop-name
invariant-loop-name l = AllByRecursion (IsRefused l.there l.wanted) l.refused.items
