-- What is run over a machine whose moves C makes: where it leads, and why it refuses the variables. They are those that a
-- machine keeps, with attributes.
use Rattle.std.specs.Prelude.{◌≡◌, List}
use Rattle.uefi_vars.specs.Vars.{Variables}
use Rattle.boot_requests.specs.declared.event.Event.{Event}
use Rattle.boot_edits.specs.declared.edit.Edit.{Edit}
use Rattle.boot_edits.specs.Restore.{IsRestored}
use Rattle.boot_edits.specs.Run.{IsRun, IsRunFault as IsEditRunFault}
use Rattle.journaled_requests.specs.Requests.{IsAnswered, IsNextOf}
use Rattle.journaled_requests.specs.RunFault.{IsRunFault}
use Rattle.bootkeep_c.specs.declared.wanted_run.OwnedEdit.{OwnedEdit}
use Rattle.bootkeep_c.specs.declared.wanted_run.WantedRun.{WantedRun}
use Rattle.bootkeep_c.specs.declared.wanted_run.WantedRun.TheVariants as wanted
use Rattle.bootkeep_c.specs.declared.wanted_run.RunAnswer.{RunAnswer}
use Rattle.bootkeep_c.specs.declared.wanted_run.RunAnswer.TheVariants as answer
use Rattle.bootkeep_c.specs.declared.wanted_run.RunRefusal.{RunRefusal}
use Rattle.bootkeep_c.specs.declared.wanted_run.RunRefusal.TheVariants as refusal
use Rattle.bootkeep_c.specs.Edits.{IsEditAsked}

-- by the deliveries of frames the one lead to the others, and this is answered
abbrev pub LeadsByFrames : List Event → Variables → Variables → RunAnswer → Type 0
LeadsByFrames events from to answer.Done = ⊥
LeadsByFrames events from to (answer.Replies replied) = IsAnswered events from to replied.answers.items × IsNextOf from replied.first
LeadsByFrames events from to (answer.Edited told) = ⊥

-- why variables refuse them
abbrev pub RefusesFrames : List Event → Variables → RunRefusal → Type 0
RefusesFrames events from (refusal.Frames fault) = IsRunFault events from fault
RefusesFrames events from (refusal.Edit fault) = ⊥

-- by an edit
abbrev pub LeadsByEdit : OwnedEdit → Variables → Variables → RunAnswer → Type 0
LeadsByEdit owned from to answer.Done = ⊥
LeadsByEdit owned from to (answer.Replies replied) = ⊥
LeadsByEdit owned from to (answer.Edited told) =
    (edit : Edit) × IsEditAsked owned.asked owned.numbers.items owned.option.items edit × IsRun edit from to told

-- why variables refuse it
abbrev pub RefusesEdit : OwnedEdit → Variables → RunRefusal → Type 0
RefusesEdit owned from (refusal.Frames fault) = ⊥
RefusesEdit owned from (refusal.Edit fault) =
    (edit : Edit) × IsEditAsked owned.asked owned.numbers.items owned.option.items edit × IsEditRunFault edit from fault

-- by bringing back those of a set, and nothing is answered
abbrev pub LeadsBack : Variables → Variables → Variables → RunAnswer → Type 0
LeadsBack back from to answer.Done = IsRestored back from to
LeadsBack back from to (answer.Replies replied) = ⊥
LeadsBack back from to (answer.Edited told) = ⊥

-- by nothing the variables stay as they are, and nothing is answered
abbrev pub LeadsNowhere : Variables → Variables → RunAnswer → Type 0
LeadsNowhere from to answer.Done = to ≡ from
LeadsNowhere from to (answer.Replies replied) = ⊥
LeadsNowhere from to (answer.Edited told) = ⊥

-- ---- all that is run

abbrev pub RunLeads : WantedRun → Variables → Variables → RunAnswer → Type 0
RunLeads wanted.Nothing from to told = LeadsNowhere from to told
RunLeads (wanted.Frames events) from to told = LeadsByFrames events.items from to told
RunLeads (wanted.Edit owned) from to told = LeadsByEdit owned from to told
RunLeads (wanted.Restore back) from to told = LeadsBack back from to told

abbrev pub RunRefuses : WantedRun → Variables → RunRefusal → Type 0
RunRefuses wanted.Nothing from why = ⊥
RunRefuses (wanted.Frames events) from why = RefusesFrames events.items from why
RunRefuses (wanted.Edit owned) from why = RefusesEdit owned from why
RunRefuses (wanted.Restore back) from why = ⊥
