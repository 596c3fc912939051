use Rattle.std.proofs.Common.{◌≡◌, drop}
use Rattle.boot_edits.specs.Orders.{extended}
use Rattle.boot_edits.specs.Parts.{is_stored}
use Rattle.boot_edits.specs.Steps.{Tells}
use Rattle.boot_edits.proofs.order.extended.Given as goal

-- The set has the numbers of the order so far, and that order, extended by what is still to come, is the one that is wanted.
abbrev pub invariant-loop-number : goal.invariant-loop-number
invariant-loop-number l = record {
  met : Tells l.met l.new.items;
  is : extended (is_stored l.vars) l.new.items (drop l.number-index l.others) ≡ extended (is_stored l.vars) l.numbers l.others;
}
