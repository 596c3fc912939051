use Rattle.uefi_option.proofs.Options.{same_option}
use Rattle.uefi_option.proofs.laws.bytes_spell_one_option.Goals as goal

pub returns : goal.returns
returns c = same_option c.bytes_spell_one_path.ensures c.no_path_begins_another.ensures
