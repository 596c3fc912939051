-- An update leaves what is kept with the attributes that were there, so turns do, and so lists of events.
use Rattle.std.proofs.Common.{ap, ◌∙◌}
use Rattle.std.specs.FinMap.{get}
use Rattle.uefi_vars.specs.Vars.{Variables}
use Rattle.boot_journal.specs.Attributes.{attributes_in}
use Rattle.boot_journal.specs.Store.{stands_for}
use Rattle.boot_journal.specs.Turns.{happened}
use Rattle.journaled_requests.proofs.KeptAttributes.{brought_keeps, through}
use Rattle.boot_journal.proofs.Whole.{all_whole}
use Rattle.journaled_requests.proofs.laws.updates_keep_attributes.Goals as goal

pub returns-clause-update : goal.returns-clause-update
returns-clause-update c = λ from to seen by.
    brought_keeps c.all_changes_lead_to_the_other_set.ensures.boot c.keep_is_no_boot_name.ensures from to by.attributes

pub returns-clause-turns : goal.returns-clause-turns
returns-clause-turns c =
    through c.all_changes_lead_to_the_other_set.ensures.boot c.keep_is_no_boot_name.ensures

pub returns-clause-events : goal.returns-clause-events
returns-clause-events c = λ w events updates name none new is are there.
    ap (λ (m : Variables). attributes_in (get m name)) (all_whole c.each_change_is_needed.ensures c.keep_is_no_boot_name.ensures w events none new)
    ∙ through c.all_changes_lead_to_the_other_set.ensures.boot c.keep_is_no_boot_name.ensures (stands_for w.boot w.store)
    (happened w events) updates name is are there
