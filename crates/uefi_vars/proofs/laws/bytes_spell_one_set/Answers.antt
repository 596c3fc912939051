use Rattle.uefi_vars.proofs.Sets.{same_set}
use Rattle.uefi_vars.proofs.laws.bytes_spell_one_set.Goals as goal

pub returns : goal.returns
returns c = same_set
