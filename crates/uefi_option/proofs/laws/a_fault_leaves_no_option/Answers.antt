use Rattle.uefi_option.proofs.Options.{fault_leaves_none}
use Rattle.uefi_option.proofs.laws.a_fault_leaves_no_option.Goals as goal

pub returns : goal.returns
returns c = fault_leaves_none c.bytes_spell_one_path.ensures c.no_path_begins_another.ensures c.a_fault_leaves_no_path.ensures
