use Rattle.uefi_vars.proofs.BootChanges.{replaces}
use Rattle.uefi_vars.proofs.laws.each_change_replaces_what_is_there.Goals as goal

pub returns : goal.returns
returns c = λ from to. replaces from to c.order_and_next_are_no_entries.ensures.order
    c.order_and_next_are_no_entries.ensures.next c.order_and_next_are_no_entries.ensures.apart
    c.order_and_next_are_no_entries.ensures.timeout
