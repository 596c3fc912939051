use Rattle.uefi_vars.proofs.BootChanges.{changes_distinct}
use Rattle.uefi_vars.proofs.laws.each_change_is_of_another_variable.Goals as goal

pub returns : goal.returns
returns c = λ from to. changes_distinct from to c.order_and_next_are_no_entries.ensures.order
    c.order_and_next_are_no_entries.ensures.next c.order_and_next_are_no_entries.ensures.apart
    c.order_and_next_are_no_entries.ensures.timeout
