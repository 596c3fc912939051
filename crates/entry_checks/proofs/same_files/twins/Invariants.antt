use Rattle.std.proofs.Common.{◌≡◌, ◌++◌, take, drop}
use Rattle.entry_checks.specs.Twins.{twins_from, twins_of, Finds}
use Rattle.entry_checks.proofs.same_files.twins.Given as goal

-- The map finds among the entries so far, and the twins of these, with those of what is still to come, are all that are wanted.
abbrev pub invariant-loop-entry : goal.invariant-loop-entry
invariant-loop-entry l = record {
  finds : Finds l.met (take l.entry-index l.entries);
  is : l.twins.items ++ twins_from (take l.entry-index l.entries) (drop l.entry-index l.entries) ≡ twins_of l.entries;
}
