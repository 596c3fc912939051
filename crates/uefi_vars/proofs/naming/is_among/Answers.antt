use Rattle.uefi_vars.proofs.NamingChanges.{found_is_among}
use Rattle.uefi_vars.proofs.naming.is_among.Goals as goal

pub returns : goal.returns
returns c = λ rising. rw c.is_ok.ensures.value (found_is_among c.args.numbers.now c.args.number c.binary_search.result c.binary_search.ensures.position rising)
