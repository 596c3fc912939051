use Rattle.uefi_vars.proofs.Plans.{has_normal}
use Rattle.uefi_vars.proofs.laws.a_plan_has_each_normal_option.Goals as goal

pub returns : goal.returns
returns c = λ entries order next plan choice is at normal. has_normal c.bytes_spell_one_option.ensures entries order plan.normal
    choice.number choice at.0 at.1 at.2 is.others normal
