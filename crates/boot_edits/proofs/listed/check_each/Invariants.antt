use Rattle.std.proofs.Common.{ℕ, ◌<◌, take}
use Rattle.boot_edits.specs.declared.fault.EditFault.{EditFault}
use Rattle.boot_edits.specs.Lists.{IsFaultAt}
use Rattle.boot_edits.specs.Needs.{IsRefusedFor}
use Rattle.boot_edits.specs.Steps.{Tells}
use Rattle.boot_edits.proofs.listed.check_each.Given as goal

-- The set has the numbers so far, and none of them has a fault.
abbrev pub invariant-loop-number : goal.invariant-loop-number
invariant-loop-number l = record {
  met : Tells l.met (take l.number-index l.numbers);
  fine : (place : ℕ) → place < l.number-index → (f : EditFault) → IsFaultAt (IsRefusedFor l.need l.vars) l.numbers place f → ⊥;
}
