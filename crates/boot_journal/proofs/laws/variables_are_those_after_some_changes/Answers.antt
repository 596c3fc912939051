-- Each move keeps that the variables are those after the first of the changes.
use Rattle.boot_journal.proofs.Dangling.{front_before, front_after}
use Rattle.boot_journal.proofs.laws.variables_are_those_after_some_changes.Goals as goal

pub returns-clause-before_a_start : goal.returns-clause-before_a_start
returns-clause-before_a_start c =
    front_before c.each_change_is_needed.ensures c.keep_is_no_boot_name.ensures c.each_change_is_of_another_variable.ensures

pub returns-clause-after_a_start : goal.returns-clause-after_a_start
returns-clause-after_a_start c =
    front_after c.each_change_is_needed.ensures c.keep_is_no_boot_name.ensures c.each_change_is_of_another_variable.ensures
