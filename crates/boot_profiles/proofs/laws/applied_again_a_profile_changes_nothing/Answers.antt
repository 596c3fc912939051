use Rattle.boot_profiles.proofs.laws.applied_again_a_profile_changes_nothing.Goals as goal

pub returns-clause-unchanged : goal.returns-clause-unchanged
returns-clause-unchanged c profile from to again valid done more =
    let met = c.what_is_applied_is_met.ensures profile from to done in
    c.a_profile_has_one_outcome.ensures profile to again to more (c.what_is_met_is_applied.ensures profile to valid met)

pub returns-clause-unrefused : goal.returns-clause-unrefused
returns-clause-unrefused c profile from to fault valid done why =
    let met = c.what_is_applied_is_met.ensures profile from to done in
    c.a_fault_leaves_no_outcome.ensures profile to to fault (c.what_is_met_is_applied.ensures profile to valid met) why
