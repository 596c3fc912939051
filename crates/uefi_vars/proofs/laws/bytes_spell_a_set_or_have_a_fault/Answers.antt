use Rattle.uefi_vars.proofs.Sets.{bytes_end}
use Rattle.uefi_vars.proofs.laws.bytes_spell_a_set_or_have_a_fault.Goals as goal

pub returns : goal.returns
returns c = bytes_end
