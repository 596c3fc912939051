-- A start on trial, as what is kept of it.
use Rattle.std.specs.Prelude.{◌≡◌, ℕ, List, length, Option}
use Rattle.uefi_vars.specs.Name.{IsName}
use Rattle.uefi_vars.specs.Order.{IsEntryNumber}
use Rattle.boot_trials.specs.declared.stage.Stage.{Stage}

-- the entry, the SHA-256 of its data, the identity of the start in which the trial began, the data of BootOrder then, and how
-- far the trial is
pub record TrialParts : Type 0 where
  pub entry : ℕ
  pub digest : List ℕ
  pub start : List ℕ
  pub order : Option (List ℕ)
  pub stage : Stage

abbrev pub trial_of : ℕ → List ℕ → List ℕ → Option (List ℕ) → Stage → TrialParts
trial_of entry digest start order stage = record { entry = entry; digest = digest; start = start; order = order; stage = stage }

-- what each trial is
pub record IsTrial (trial : TrialParts) : Type 0 where
  pub entry : IsEntryNumber trial.entry
  pub digest : length trial.digest ≡ 32
  pub start : IsName trial.start
