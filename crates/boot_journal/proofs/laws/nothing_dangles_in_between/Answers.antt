-- By the law of uefi_vars on sets of some of the changes, carried over to what a machine keeps.
use Rattle.boot_journal.proofs.Dangling.{order_law, next_law, order_in_data, next_in_data}
use Rattle.boot_journal.proofs.laws.nothing_dangles_in_between.Goals as goal

pub returns-clause-order : goal.returns-clause-order
returns-clause-order c =
    let names = c.order_and_next_are_no_entries.ensures in
    order_law names.len names.next (order_in_data names.order names.next names.apart)

pub returns-clause-next : goal.returns-clause-next
returns-clause-next c =
    let names = c.order_and_next_are_no_entries.ensures in
    next_law names.len names.next (next_in_data names.order names.next names.apart)
