-- Why a run of requests refuses what a machine keeps.
use Rattle.std.specs.Prelude.{ℕ, List, [], ◌++◌, codes}
use Rattle.uefi_vars.specs.Vars.{Variables}
use Rattle.boot_requests.specs.declared.event.Event.{Event}
use Rattle.boot_requests.specs.Run.{run_followed_by, state_at}
use Rattle.boot_requests.specs.Seen.{Seen, AreSeen}
use Rattle.boot_requests.specs.State.{State, IsImage}
use Rattle.boot_requests.specs.StoredState.{IsOpenFault}
use Rattle.boot_requests.specs.Words.{open_fault_words}
use Rattle.journaled_requests.specs.declared.requests.RunFault.{RunFault}
use Rattle.journaled_requests.specs.declared.requests.RunFault.TheVariants.{Open, NoData, TooLong}
use Rattle.boot_journal.specs.Attributes.{data_of, HasNoData, HasLongData}
use Rattle.journaled_requests.specs.Requests.{KeepsState}

-- the events lead from what is kept to a set that has too much data for attributes
pub record LeadsTooFar (events : List Event) (from : Variables) : Type 0 where
  pub seen : List Seen
  pub are : AreSeen events seen
  pub state : State
  pub keeps : KeepsState from state
  pub to : Variables
  pub leads : IsImage (state_at state (run_followed_by [] seen)) to
  pub long : HasLongData to

-- why a run of these events refuses these variables
abbrev pub IsRunFault : List Event → Variables → RunFault → Type 0
IsRunFault events from (Open fault) = IsOpenFault (data_of from) fault
IsRunFault events from NoData = HasNoData from
IsRunFault events from TooLong = LeadsTooFar events from

-- for private functions: why a set isn't opened
abbrev pub IsOpenRefusal : Variables → RunFault → Type 0
IsOpenRefusal set (Open fault) = IsOpenFault set fault
IsOpenRefusal set NoData = ⊥
IsOpenRefusal set TooLong = ⊥

-- the words of a fault: its name and, after a blank, the words of the fault that it holds
abbrev pub run_fault_words : RunFault → List ℕ
run_fault_words (Open fault) = codes "Open " ++ open_fault_words fault
run_fault_words NoData = codes "NoData"
run_fault_words TooLong = codes "TooLong"
