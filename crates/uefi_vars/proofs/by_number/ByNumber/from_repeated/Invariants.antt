use Rattle.std.proofs.Common.{◌≡◌, ℕ, cond, Some, None, take}
use Rattle.uefi_vars.specs.ByNumber.{is_repeated, place_of, Tells}
use Rattle.uefi_vars.proofs.by_number.ByNumber.from_repeated.Given as goal

-- The set has the numbers so far, and those that are repeated among them have places.
abbrev pub invariant-loop-number : goal.invariant-loop-number
invariant-loop-number g l = record {
  met : Tells l.met (take l.number-index l.order);
  places : (number : ℕ) → place_of l.table number ≡ cond (is_repeated (take l.number-index l.order) number) (Some None) None;
}
