use Rattle.uefi_vars.proofs.BootChanges.{order_dangles, next_dangles}
use Rattle.uefi_vars.proofs.laws.nothing_dangles_in_between.Goals as goal

pub returns-clause-order : goal.returns-clause-order
returns-clause-order c = λ from to. order_dangles from to c.order_and_next_are_no_entries.ensures.order
    c.order_and_next_are_no_entries.ensures.next c.order_and_next_are_no_entries.ensures.apart

pub returns-clause-next : goal.returns-clause-next
returns-clause-next c = λ from to. next_dangles from to c.order_and_next_are_no_entries.ensures.order
    c.order_and_next_are_no_entries.ensures.next c.order_and_next_are_no_entries.ensures.apart
