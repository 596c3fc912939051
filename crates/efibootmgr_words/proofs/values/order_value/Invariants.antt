use Rattle.efibootmgr_words.proofs.Orders.{IsReadUpTo, size_of}
use Rattle.efibootmgr_words.proofs.values.order_value.Given as goal

abbrev pub invariant-loop-rest : goal.invariant-loop-rest
invariant-loop-rest l = IsReadUpTo l.text l.rest l.numbers.items

abbrev pub decreases-loop-rest : goal.decreases-loop-rest
decreases-loop-rest l = size_of l.rest
