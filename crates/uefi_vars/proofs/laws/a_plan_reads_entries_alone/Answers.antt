use Rattle.uefi_vars.proofs.Plans.{other_plan}
use Rattle.uefi_vars.proofs.laws.a_plan_reads_entries_alone.Goals as goal

pub returns : goal.returns
returns c = λ entries others order next plan numbers number same. other_plan entries others same order next plan numbers number
