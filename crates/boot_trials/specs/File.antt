-- The file of a trial: a set file of a few variables, whose names are fixed.
use Rattle.std.specs.Prelude.{◌≡◌, ℕ, List, [], ◌∷◌, Some, codes}
use Rattle.std.specs.FinMap.{empty, get, insert}
use Rattle.std.specs.Int.{w16, to_le_bytes}
use Rattle.uefi_vars.specs.Fault.{IsFirstFault}
use Rattle.uefi_vars.specs.NameChanges.{with_data}
use Rattle.uefi_vars.specs.Set.{SpellsSet}
use Rattle.uefi_vars.specs.Vars.{Variables}
use Rattle.boot_trials.specs.declared.fault.TrialFault.{TrialFault}
use Rattle.boot_trials.specs.declared.fault.TrialFault.TheVariants.{NoSet, NoTrial, OutOfMemory}
use Rattle.boot_trials.specs.declared.stage.Stage.{Stage}
use Rattle.boot_trials.specs.declared.stage.Stage.TheVariants.{Open, Confirming}
use Rattle.boot_trials.specs.Trial.{TrialParts, IsTrial}

abbrev pub digest_name : List ℕ
digest_name = codes "Digest"

abbrev pub entry_name : List ℕ
entry_name = codes "Entry"

abbrev pub order_name : List ℕ
order_name = codes "Order"

abbrev pub stage_name : List ℕ
stage_name = codes "Stage"

abbrev pub start_name : List ℕ
start_name = codes "Start"

-- the byte that stands for a stage
abbrev pub stage_byte : Stage → ℕ
stage_byte Open = 0
stage_byte Confirming = 1

-- the variables of the file: no Order if there was no BootOrder
abbrev pub trial_vars : TrialParts → Variables
trial_vars trial =
    with_data (insert (insert (insert (insert empty
    digest_name trial.digest)
    entry_name (to_le_bytes w16 trial.entry))
    stage_name (stage_byte trial.stage ∷ []))
    start_name trial.start)
    order_name trial.order

-- the bytes, all of them, spell the trial
abbrev pub SpellsTrial : List ℕ → TrialParts → Type 0
SpellsTrial bytes trial = IsTrial trial × SpellsSet bytes (trial_vars trial)

-- why the bytes spell none
abbrev pub IsTrialFault : List ℕ → TrialFault → Type 0
IsTrialFault bytes (NoSet fault) = IsFirstFault bytes fault
IsTrialFault bytes NoTrial = ((vars : Variables) × SpellsSet bytes vars) × ((trial : TrialParts) → SpellsTrial bytes trial → ⊥)
IsTrialFault bytes OutOfMemory = Unit {0}

-- for private functions: what the variables have under each name is that of the trial
pub record Tells (vars : Variables) (trial : TrialParts) : Type 0 where
  pub digest : get vars digest_name ≡ Some trial.digest
  pub entry : get vars entry_name ≡ Some (to_le_bytes w16 trial.entry)
  pub stage : get vars stage_name ≡ Some (stage_byte trial.stage ∷ [])
  pub start : get vars start_name ≡ Some trial.start
  pub order : get vars order_name ≡ trial.order

-- for private functions: the variables are those of no trial's file, and this fault is told of it
abbrev pub IsOther : Variables → TrialFault → Type 0
IsOther vars f = (f ≡ NoTrial) × ((trial : TrialParts) → IsTrial trial → vars ≡ trial_vars trial → ⊥)
