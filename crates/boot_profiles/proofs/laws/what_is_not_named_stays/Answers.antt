use Rattle.boot_profiles.proofs.Profiles.{applied_left, applied_none, applied_others, applied_timeout}
use Rattle.boot_profiles.proofs.laws.what_is_not_named_stays.Goals as goal

pub returns-clause-entries : goal.returns-clause-entries
returns-clause-entries c profile from to number bytes done fits other stored =
    applied_left profile from to done c.a_switch_changes_one_bit.ensures number bytes fits other stored

pub returns-clause-none_comes : goal.returns-clause-none_comes
returns-clause-none_comes c profile from to number bytes done fits other stored =
    applied_none profile from to done c.a_switch_changes_one_bit.ensures number bytes fits other stored

pub returns-clause-others : goal.returns-clause-others
returns-clause-others c profile from to name done other =
    applied_others profile from to done c.a_switch_changes_one_bit.ensures name other.other other.timeout

pub returns-clause-timeout : goal.returns-clause-timeout
returns-clause-timeout c profile from to done kept = applied_timeout profile from to done c.a_switch_changes_one_bit.ensures kept
