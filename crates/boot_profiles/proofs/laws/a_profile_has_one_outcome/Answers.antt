use Rattle.boot_profiles.proofs.Outcomes.{applied_once}
use Rattle.boot_profiles.proofs.laws.a_profile_has_one_outcome.Goals as goal

pub returns : goal.returns
returns c profile from a b p q = applied_once c.variables_and_options_are_read_one_way.ensures profile from a b p q
