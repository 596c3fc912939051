-- Runs over what a machine keeps, its variables of the boot manager with attributes: one begins a trial, the other makes what
-- follows from it.
use Rattle.std.specs.Prelude.{◌≡◌, ◌≢◌, ◌⊎◌, ℕ, true, List, [], ◌∷◌, Some}
use Rattle.std.specs.FinMap.{get}
use Rattle.sha2.specs.Sha256.{sha256}
use Rattle.uefi_option.specs.LoadOption.{OptionParts, SpellsOption}
use Rattle.uefi_vars.specs.Name.{order_text}
use Rattle.uefi_vars.specs.Order.{IsEntryNumber}
use Rattle.uefi_vars.specs.Vars.{Variables, entry_of}
use Rattle.boot_journal.specs.Attributes.{data_of, with_attributes, HasNoData, HasLongData}
use Rattle.boot_edits.specs.Edit.{IsReordered, IsReorderFault, IsFrontOrder, AreSwitched, IsNextSet, IsNextFault}
use Rattle.boot_edits.specs.Lists.{IsMissing, IsNoOption, IsFirstFault}
use Rattle.boot_edits.specs.Parts.{IsOtherName}
use Rattle.boot_edits.specs.declared.fault.EditFault.{EditFault}
use Rattle.boot_edits.specs.declared.fault.EditFault.TheVariants as edit
use Rattle.boot_edits.specs.declared.run.EditRunFault.{EditRunFault}
use Rattle.boot_edits.specs.declared.run.EditRunFault.TheVariants as run
use Rattle.boot_trials.specs.declared.outcome.Outcome.{Outcome}
use Rattle.boot_trials.specs.declared.outcome.Outcome.TheVariants.{TooEarly, CameUp, Failed, Changed, Interrupted, Done}
use Rattle.boot_trials.specs.declared.stage.Stage.TheVariants.{Open}
use Rattle.boot_trials.specs.Outcome.{IsOutcome, current_of}
use Rattle.boot_trials.specs.Trial.{TrialParts, trial_of}

-- ---- the edits of a set

-- the entry comes first in BootOrder, and all else stays
abbrev pub IsPutFirst : ℕ → Variables → Variables → Type 0
IsPutFirst entry vars to = IsReordered vars (IsMissing vars) (entry ∷ []) (IsFrontOrder vars (entry ∷ [])) to

-- the entry is active, and all else stays
abbrev pub IsActivated : ℕ → Variables → Variables → Type 0
IsActivated entry vars to = AreSwitched vars true (entry ∷ []) to

-- BootNext names the entry, and all else stays
abbrev pub IsNext : ℕ → Variables → Variables → Type 0
IsNext entry vars to = IsNextSet vars (Some entry) to

-- what is kept is edited so, and each variable has the attributes that it had
pub record IsKept (IsSo : Variables → Variables → Type 0) (from to : Variables) : Type 0 where
  pub set : Variables
  pub edited : IsSo (data_of from) set
  pub is : to ≡ with_attributes from set

-- why such an edit of what is kept isn't made
abbrev pub IsKeptFault : (Variables → Variables → Type 0) → (Variables → EditFault → Type 0) → Variables → EditRunFault → Type 0
IsKeptFault IsSo IsFault from (run.Edit f) = (f ≢ edit.OutOfMemory) × IsFault (data_of from) f
IsKeptFault IsSo IsFault from run.NoData = HasNoData from
IsKeptFault IsSo IsFault from run.TooLong = (set : Variables) × IsSo (data_of from) set × HasLongData set

-- ---- a trial begins

-- this is the trial of the entry, which is a load option, in this start, with these variables
pub record IsNewTrial (vars : Variables) (entry : ℕ) (start : List ℕ) (trial : TrialParts) : Type 0 where
  pub bytes : List ℕ
  pub stored : entry_of vars entry ≡ Some bytes
  pub option : (option : OptionParts) × SpellsOption bytes option
  pub is : trial ≡ trial_of entry (sha256 bytes) start (get vars order_text) Open

-- and the next start tries it
pub record IsTry (entry : ℕ) (start : List ℕ) (from to : Variables) (trial : TrialParts) : Type 0 where
  pub new : IsNewTrial (data_of from) entry start trial
  pub next : IsKept (IsNext entry) from to

-- why there is no trial of the entry: it is missing, or is no load option
abbrev pub IsNoTrial : Variables → ℕ → EditRunFault → Type 0
IsNoTrial vars entry f = (g : EditFault) × (f ≡ run.Edit g) × IsNoOption vars entry g

-- why BootNext isn't set
abbrev pub IsNextRefusal : ℕ → Variables → EditRunFault → Type 0
IsNextRefusal entry = IsKeptFault (IsNext entry) (λ vars. IsNextFault vars (Some entry))

-- why no trial begins: nothing can be kept of what is there, the entry is missing or is no load option, or BootNext isn't set
abbrev pub IsTryFault : ℕ → Variables → EditRunFault → Type 0
IsTryFault entry from f =
    ((f ≡ run.NoData) × HasNoData from)
    ⊎ (IsNoTrial (data_of from) entry f ⊎ IsNextRefusal entry from f)

-- ---- what follows from a trial

-- the entry comes first in BootOrder and is active
pub record IsConfirmed (entry : ℕ) (from to : Variables) : Type 0 where
  pub between : Variables
  pub first : IsKept (IsPutFirst entry) from between
  pub active : IsKept (IsActivated entry) between to

-- what is made of what is kept: a change if the machine came up by the entry, and nothing otherwise
abbrev pub IsMade : ℕ → Outcome → Variables → Variables → Type 0
IsMade entry CameUp from to = IsConfirmed entry from to
IsMade entry TooEarly from to = to ≡ from
IsMade entry Changed from to = to ≡ from
IsMade entry (Failed by) from to = to ≡ from
IsMade entry Interrupted from to = to ≡ from
IsMade entry Done from to = to ≡ from

-- this came of the trial, in this start, and this is made of what is kept
pub record IsConfirming (trial : TrialParts) (start : List ℕ) (from to : Variables) (came : Outcome) : Type 0 where
  pub outcome : IsOutcome trial start (current_of (data_of from)) (data_of from) came
  pub made : IsMade trial.entry came from to

-- why the entry isn't put first, and why it isn't made active
abbrev pub IsFirstRefusal : ℕ → Variables → EditRunFault → Type 0
IsFirstRefusal entry =
    IsKeptFault (IsPutFirst entry) (λ vars. IsReorderFault (IsMissing vars) (entry ∷ []) (IsFrontOrder vars (entry ∷ [])))

abbrev pub IsActiveRefusal : ℕ → Variables → EditRunFault → Type 0
IsActiveRefusal entry = IsKeptFault (IsActivated entry) (λ vars. IsFirstFault (IsNoOption vars) (entry ∷ []))

-- why the entry isn't confirmed: the first edit of what is kept isn't made, or the second
abbrev pub IsConfirmFault : ℕ → Variables → EditRunFault → Type 0
IsConfirmFault entry from f =
    IsFirstRefusal entry from f
    ⊎ ((between : Variables) × IsKept (IsPutFirst entry) from between × IsActiveRefusal entry between f)

-- why nothing follows: nothing can be read of what is there, or the machine came up by the entry, which isn't confirmed
abbrev pub IsConfirmingFault : TrialParts → List ℕ → Variables → EditRunFault → Type 0
IsConfirmingFault trial start from f =
    ((f ≡ run.NoData) × HasNoData from)
    ⊎ (IsOutcome trial start (current_of (data_of from)) (data_of from) CameUp × IsConfirmFault trial.entry from f)

-- ---- what the laws say

-- the second variables are the first but for BootNext
pub record DifferInNext (vars to : Variables) : Type 0 where
  pub entries : (number : ℕ) → IsEntryNumber number → entry_of to number ≡ entry_of vars number
  pub order : get to order_text ≡ get vars order_text
  pub others : (name : List ℕ) → IsOtherName name → get to name ≡ get vars name
