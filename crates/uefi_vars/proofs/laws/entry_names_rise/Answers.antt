use Rattle.uefi_vars.proofs.Names.{names_rise}
use Rattle.uefi_vars.proofs.laws.entry_names_rise.Goals as goal

pub returns : goal.returns
returns c = names_rise
