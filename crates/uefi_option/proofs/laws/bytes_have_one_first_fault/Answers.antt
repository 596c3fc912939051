use Rattle.uefi_option.proofs.Options.{same_first_fault}
use Rattle.uefi_option.proofs.laws.bytes_have_one_first_fault.Goals as goal

pub returns : goal.returns
returns c =
    same_first_fault c.bytes_spell_one_path.ensures c.no_path_begins_another.ensures c.a_fault_leaves_no_path.ensures c.bytes_have_one_first_fault.ensures
