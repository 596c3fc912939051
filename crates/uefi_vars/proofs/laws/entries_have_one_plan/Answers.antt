use Rattle.uefi_vars.proofs.Plans.{one_plan}
use Rattle.uefi_vars.proofs.laws.entries_have_one_plan.Goals as goal

pub returns : goal.returns
returns c = one_plan c.bytes_spell_one_option.ensures
