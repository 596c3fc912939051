use Rattle.boot_profiles.proofs.Profiles.{met_applied}
use Rattle.boot_profiles.proofs.laws.what_is_met_is_applied.Goals as goal

pub returns : goal.returns
returns c profile vars valid met = met_applied c.a_switch_changes_one_bit.ensures profile vars valid met
