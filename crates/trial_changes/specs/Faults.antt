-- Why trials don't begin, and why nothing follows from them.
use Rattle.std.specs.Prelude.{◌≢◌, ℕ, List}
use Rattle.uefi_vars.specs.Vars.{Variables}
use Rattle.messages.specs.declared.failure.Failure.TheVariants.{Memory}
use Rattle.boot_trials.specs.declared.adding.TrialTarget.{TrialTarget}
use Rattle.boot_trials.specs.Adding.{IsBeginFault}
use Rattle.boot_trials.specs.Run.{IsConfirmingFault}
use Rattle.boot_trials.specs.Trial.{TrialParts}
use Rattle.trial_changes.specs.declared.wanted_confirm.ConfirmFault.{ConfirmFault}
use Rattle.trial_changes.specs.declared.wanted_confirm.ConfirmFault.TheVariants as confirm
use Rattle.trial_changes.specs.declared.wanted_try.TryFault.{TryFault}
use Rattle.trial_changes.specs.declared.wanted_try.TryFault.TheVariants.{Kept, Run, Failure}

-- what is kept in a state folder can't be said, so of some entry a trial is kept; or what is there refuses this one
abbrev pub IsTryRefusal : TrialTarget → Variables → TryFault → Type 0
IsTryRefusal target from (Kept kept) = Unit {0}
IsTryRefusal target from (Run fault) = IsBeginFault target from fault
IsTryRefusal target from (Failure failure) = failure ≢ Memory

-- what is there refuses what follows from some trial
abbrev pub IsConfirmRefusal : List ℕ → Variables → ConfirmFault → Type 0
IsConfirmRefusal start from (confirm.Run fault) = (trial : TrialParts) × IsConfirmingFault trial start from fault
IsConfirmRefusal start from (confirm.Failure failure) = failure ≢ Memory
