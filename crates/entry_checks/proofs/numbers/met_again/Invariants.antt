use Rattle.std.proofs.Common.{◌≡◌, [], take, drop}
use Rattle.entry_checks.specs.Numbers.{repeated_from, Tells}
use Rattle.entry_checks.proofs.numbers.met_again.Given as goal

-- The set has the numbers so far, and those that came again, with what is still to come, are those that are wanted.
abbrev pub invariant-loop-number : goal.invariant-loop-number
invariant-loop-number l = record {
  met : Tells l.met (take l.number-index l.numbers);
  is : repeated_from (take l.number-index l.numbers) l.again.items (drop l.number-index l.numbers) ≡ repeated_from [] [] l.numbers;
}
