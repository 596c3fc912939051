use Rattle.boot_profiles.proofs.Profiles.{applied_met}
use Rattle.boot_profiles.proofs.laws.what_is_applied_is_met.Goals as goal

pub returns : goal.returns
returns c profile from to done = applied_met profile from to done c.a_switch_changes_one_bit.ensures c.bytes_spell_one_option.ensures
