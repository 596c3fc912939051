use Rattle.std.proofs.lemmas.List.Sorted.{IsNonDecreasingBy-from_sort}
use Rattle.boot_history.proofs.numbers.numbers_of.Goals as goal

pub returns : goal.returns
returns c = record {
  rising = IsNonDecreasingBy-from_sort (λ n. n) _ c.in_ok-sort.ensures.sorted;
  same = rw (← c.in_ok-numbers.ensures) c.in_ok-sort.ensures.permutation;
}
