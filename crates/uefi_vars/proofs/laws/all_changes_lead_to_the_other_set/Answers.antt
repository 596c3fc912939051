use Rattle.uefi_vars.proofs.BootChanges.{after_boot, after_others}
use Rattle.uefi_vars.proofs.laws.all_changes_lead_to_the_other_set.Goals as goal

pub returns-clause-boot : goal.returns-clause-boot
returns-clause-boot c = after_boot

pub returns-clause-others : goal.returns-clause-others
returns-clause-others c = after_others
