use Rattle.uefi_vars.specs.Name.{entry_text, order_text, next_text}
use Rattle.uefi_vars.proofs.Names.{get-insert_apart, get-remove_apart}
use Rattle.uefi_vars.proofs.Numbers.{HasOrder-along}
use Rattle.uefi_vars.proofs.Next.{HasNext-along}
use Rattle.uefi_vars.proofs.laws.changes_of_entries_leave_order_and_next.Goals as goal

pub returns-clause-put_order : goal.returns-clause-put_order
returns-clause-put_order c = λ vars k value order. HasOrder-along _ vars
    (get-insert_apart vars (entry_text k) value order_text (c.order_and_next_are_no_entries.ensures.order k)) order

pub returns-clause-put_next : goal.returns-clause-put_next
returns-clause-put_next c = λ vars k value next. HasNext-along _ vars
    (get-insert_apart vars (entry_text k) value next_text (c.order_and_next_are_no_entries.ensures.next k)) next

pub returns-clause-removed_order : goal.returns-clause-removed_order
returns-clause-removed_order c = λ vars k order. HasOrder-along _ vars
    (get-remove_apart vars (entry_text k) order_text (c.order_and_next_are_no_entries.ensures.order k)) order

pub returns-clause-removed_next : goal.returns-clause-removed_next
returns-clause-removed_next c = λ vars k next. HasNext-along _ vars
    (get-remove_apart vars (entry_text k) next_text (c.order_and_next_are_no_entries.ensures.next k)) next
