use Rattle.std.proofs.Common.{◌≡◌, true, drop}
use Rattle.boot_edits.specs.Orders.{extended, each_once}
use Rattle.boot_edits.specs.Steps.{Tells}
use Rattle.boot_edits.proofs.order.each_once.Given as goal

-- The set has the numbers so far, and these, extended by what is still to come, are the ones that are wanted.
abbrev pub invariant-loop-number : goal.invariant-loop-number
invariant-loop-number l = record {
  met : Tells l.met l.order.items;
  is : extended (λ number. true) l.order.items (drop l.number-index l.numbers) ≡ each_once l.numbers;
}
