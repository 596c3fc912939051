use Rattle.uefi_option.proofs.Readings.{bytes_end}
use Rattle.uefi_option.proofs.laws.bytes_spell_an_option_or_have_a_fault.Goals as goal

pub returns : goal.returns
returns c = bytes_end c.bytes_begin_with_a_path_or_have_a_fault.ensures
