use Rattle.std.proofs.Common.{◌≡◌, drop}
use Rattle.entry_checks.specs.Numbers.{distinct_from, distinct, Tells}
use Rattle.entry_checks.proofs.numbers.distinct.Given as goal

-- The set has the numbers so far, and these, with what is still to come behind them, are those that are wanted.
abbrev pub invariant-loop-number : goal.invariant-loop-number
invariant-loop-number l = record {
  met : Tells l.met l.once.items;
  is : distinct_from l.once.items (drop l.number-index l.numbers) ≡ distinct l.numbers;
}
