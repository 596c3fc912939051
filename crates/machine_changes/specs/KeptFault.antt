-- Why a change isn't made of variables, before which something is told and kept.
use Rattle.std.specs.Prelude.{◌≢◌, []}
use Rattle.uefi_vars.specs.BootChange.{changes_from}
use Rattle.uefi_vars.specs.Vars.{Variables}
use Rattle.messages.specs.declared.failure.Failure.TheVariants.{Memory}
use Rattle.machine_changes.specs.declared.kept_run.KeptFault.{KeptFault}
use Rattle.machine_changes.specs.declared.kept_run.KeptFault.TheVariants.{Run, Telling, History, Beginning}

-- the run leads to a change of the boot manager's variables
abbrev pub LeadsToChange : {A : Type 0} → (Variables → Variables → A → Type 0) → Variables → Type 0
LeadsToChange {A} Leads from = (to : Variables) × (answer : A) × Leads from to answer × (changes_from from to ≢ [])

-- the run itself refuses them for its fault; or what is to be told can't be; or the run leads to a change, and what is there
-- can't be kept; or what is to be done right before the change can't be
abbrev pub IsKeptFault : {F : Type 0} → KeptFault F → (F → Type 0) → Type 0 → Type 0
IsKeptFault (Run fault) Refuses Changes = Refuses fault
IsKeptFault (Telling failure) Refuses Changes = failure ≢ Memory
IsKeptFault (History failure) Refuses Changes = Changes
IsKeptFault (Beginning failure) Refuses Changes = failure ≢ Memory

-- what is to be told of a run can't be; or it leads to a change, and what is there can't be kept; or what is to be done right
-- before the change can't be
abbrev pub IsUnprepared : {F : Type 0} → Type 0 → KeptFault F → Type 0
IsUnprepared Changes (Run fault) = ⊥
IsUnprepared Changes (Telling failure) = failure ≢ Memory
IsUnprepared Changes (History failure) = Changes
IsUnprepared Changes (Beginning failure) = failure ≢ Memory
