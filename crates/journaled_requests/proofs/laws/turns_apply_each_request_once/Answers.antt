-- By `Applied`, from what boot_requests has of runs and uefi_vars of changes.
use Rattle.journaled_requests.proofs.AppliedTurns.{all_applied, agrees}
use Rattle.journaled_requests.proofs.laws.turns_apply_each_request_once.Goals as goal

pub returns : goal.returns
returns c = λ vars turns start run opens is.
    let changes = c.all_changes_lead_to_the_other_set.ensures in
    let applied = all_applied c.a_run_leads_to_a_state.ensures c.each_plain_state_has_a_turn.ensures c.a_turn_goes_on_with_the_run.ensures.state
    c.a_start_stands_for_no_events.ensures c.an_image_is_migrated_to_itself.ensures.opens c.order_and_next_are_no_entries.ensures.next
    c.keep_is_no_boot_name.ensures changes.boot changes.others c.entry_names_are_those_of_numbers.ensures vars turns start run opens is in
    (applied.now, applied.opens, agrees applied.now _ applied.alike)
