use Rattle.std.proofs.Common.{◌≡◌, ◌+◌, ◌++◌, length}
use Rattle.std.specs.FinMap.{entries}
use Rattle.uefi_vars.specs.Iter.{variables_left}
use Rattle.uefi_vars.specs.Set.{magic, records_bytes}
use Rattle.bootkeep_c.specs.Variables.{places_from}
use Rattle.bootkeep_c.proofs.variable.places_in.Given as goal

-- the places so far, with those of the variables that are still to come, whose records are the rest of the set
abbrev pub invariant-loop-name : goal.invariant-loop-name
invariant-loop-name l = record {
  places : l.places.items ++ places_from l.at (variables_left l.name-iterator) ≡ places_from (length magic) (entries l.vars);
  rest : l.at + length (records_bytes (variables_left l.name-iterator)) ≡ length l.set;
}
