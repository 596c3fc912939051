-- What follows from what is kept of a trial.
use Rattle.std.specs.Prelude.{◌≡◌, ℕ, List, Option, Some, None}
use Rattle.uefi_vars.specs.Vars.{Variables}
use Rattle.boot_trials.specs.Run.{IsConfirming}
use Rattle.trial_changes.specs.declared.wanted_confirm.Confirmation.{Confirmation}

-- nothing, if no trial is kept, or else what follows from it in this start
abbrev pub IsFollowing : List ℕ → Variables → Variables → Option Confirmation → Type 0
IsFollowing start from to None = to ≡ from
IsFollowing start from to (Some confirmation) = IsConfirming confirmation.trial start from to confirmation.outcome
