-- What a check says of the next boot.
use Rattle.std.specs.Prelude.{◌==◌, Bool, false, ◌||◌, is_some, not, List, [], ◌∷◌, length, Option, Some, None, if◌then◌else◌}
use Rattle.uefi_vars.specs.declared.boot_plan.PlanNumbers.{PlanNumbers}
use Rattle.entry_checks.specs.declared.facts.State.{State}
use Rattle.entry_checks.specs.declared.facts.State.TheVariants as state
use Rattle.entry_checks.specs.Facts.{state_of}
use Rattle.place_checks.specs.declared.check.Verdict.{Verdict}
use Rattle.place_checks.specs.declared.check.Verdict.TheVariants as verdict
use Rattle.place_checks.specs.declared.checked.Found.{Found}

-- BootOrder names an entry that a normal boot tries
abbrev pub has_normal : Option PlanNumbers → Bool
has_normal None = false
has_normal (Some plan) = not (length plan.normal.items == 0)

-- the next boot tries an entry
abbrev pub has_entry : Option PlanNumbers → Bool
has_entry None = false
has_entry (Some plan) = is_some plan.next || not (length plan.normal.items == 0)

-- the first that is told: that of BootNext, or else the first of the order
abbrev pub first_state : List Found → State
first_state [] = state.Wrong
first_state (found ∷ others) = state_of found.findings.items

-- what the next boot tries first, if that is an entry
abbrev pub checked_state : Option PlanNumbers → List Found → State
checked_state plan found = if has_entry plan then first_state found else state.Wrong

-- the status tells only whether something is wrong
abbrev pub verdict_of : State → Verdict
verdict_of state.Wrong = verdict.Wrong
verdict_of _ = verdict.Fine
