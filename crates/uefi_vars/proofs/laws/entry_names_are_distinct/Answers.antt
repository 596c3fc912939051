use Rattle.uefi_vars.proofs.Names.{names_apart}
use Rattle.uefi_vars.proofs.laws.entry_names_are_distinct.Goals as goal

pub returns : goal.returns
returns c = names_apart
