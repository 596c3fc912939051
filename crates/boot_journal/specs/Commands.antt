-- Commands: a settling, a run, and an update.
use Rattle.std.specs.Prelude.{◌≡◌, ◌⊎◌, Option, Some, ℕ, ◌+◌, ◌<◌, ◌≤◌, List, [], Result, Ok, Err}
use Rattle.uefi_vars.specs.Vars.{Variables}
use Rattle.boot_journal.specs.declared.machine.CallError.{CallError}
use Rattle.boot_journal.specs.declared.machine.CallError.TheVariants.{Refused}
use Rattle.boot_journal.specs.declared.machine.UpdateError.{UpdateError}
use Rattle.boot_journal.specs.declared.machine.UpdateError.TheVariants.{OutOfMemory, TakenBack, Unsettled}
use Rattle.boot_journal.specs.declared.machine.CommandError.{CommandError}
use Rattle.boot_journal.specs.declared.machine.CommandError.TheVariants as command
use Rattle.boot_journal.specs.Cause.{failures_in}
use Rattle.boot_journal.specs.Store.{Store, stands_for, brought, IsSettledOrTakenBack}
use Rattle.boot_journal.specs.Moves.{IsSettling, IsUpdating, settled}

-- where a cut comes in a command: in its settling, or in its update, to variables to which the run leads
abbrev pub IsCommanding : (Variables → Variables → Type 0) → List ℕ → Store → Store → Type 0
IsCommanding Leads boot s c =
    IsSettling boot s c ⊎ ((to : Variables) × Leads (stands_for boot s) to × IsUpdating boot to (settled boot s) c)

-- what it leaves stands for what was there or what that falls back to, or for what the run leads to
abbrev pub IsCommandMoment : (Variables → Variables → Type 0) → List ℕ → Store → Store → Type 0
IsCommandMoment Leads boot s c =
    IsSettledOrTakenBack boot s c ⊎ ((to : Variables) × Leads (stands_for boot s) to × (stands_for boot c ≡ brought (stands_for boot s) to))

-- what an error says: the machine stands for what it did
abbrev pub IfUnchanged : {E F : Type 0} → CommandError E F → Type 0 → Type 0
IfUnchanged (command.Settling OutOfMemory) Is = Is
IfUnchanged (command.Settling (TakenBack _)) Is = Unit {0}
IfUnchanged (command.Settling (Unsettled _ _)) Is = Unit {0}
IfUnchanged command.OutOfMemory Is = Is
IfUnchanged (command.Run _) Is = Is
IfUnchanged (command.Updating OutOfMemory) Is = Is
IfUnchanged (command.Updating (TakenBack _)) Is = Is
IfUnchanged (command.Updating (Unsettled _ _)) Is = Unit {0}

-- what the error says of the settling, if that failed
abbrev pub IfSettlingFailed : {E F : Type 0} → CommandError E F → (UpdateError E → Type 0) → Type 0
IfSettlingFailed (command.Settling error) Says = Says error
IfSettlingFailed command.OutOfMemory Says = Unit {0}
IfSettlingFailed (command.Run _) Says = Unit {0}
IfSettlingFailed (command.Updating _) Says = Unit {0}

-- what the error says of the update, if that failed
abbrev pub IfUpdatingFailed : {E F : Type 0} → CommandError E F → (UpdateError E → Type 0) → Type 0
IfUpdatingFailed (command.Settling _) Says = Unit {0}
IfUpdatingFailed command.OutOfMemory Says = Unit {0}
IfUpdatingFailed (command.Run _) Says = Unit {0}
IfUpdatingFailed (command.Updating error) Says = Says error

-- the run refused the variables, for this fault
abbrev pub IfRunRefused : {E F : Type 0} → CommandError E F → (F → Type 0) → Type 0
IfRunRefused (command.Settling _) Is = Unit {0}
IfRunRefused command.OutOfMemory Is = Unit {0}
IfRunRefused (command.Run fault) Is = Is fault
IfRunRefused (command.Updating _) Is = Unit {0}

-- that the machine refused something is told only if it did since
pub record HasCommandCause {T E F : Type 0} (before now : ℕ) (result : Result T (CommandError E F)) : Type 0 where
  pub later : before ≤ now
  pub settling_taken_back : (refusal : E) → result ≡ Err (command.Settling (TakenBack (Refused refusal))) → before < now
  pub settling_unsettled : (refusal : E) (second : Option (CallError E)) → result ≡ Err (command.Settling (Unsettled (Refused refusal) second)) → before < now
  pub settling_both : (refusal second : E) → result ≡ Err (command.Settling (Unsettled (Refused refusal) (Some (Refused second)))) → 1 + before < now
  pub updating_taken_back : (refusal : E) → result ≡ Err (command.Updating (TakenBack (Refused refusal))) → before < now
  pub updating_unsettled : (refusal : E) (second : Option (CallError E)) → result ≡ Err (command.Updating (Unsettled (Refused refusal) second)) → before < now
  pub updating_both : (refusal second : E) → result ≡ Err (command.Updating (Unsettled (Refused refusal) (Some (Refused second)))) → 1 + before < now

-- the failures that a command tells: none, if it was done, or if what failed was no move
abbrev pub command_failures : {T E F : Type 0} → Result T (CommandError E F) → List (CallError E)
command_failures (Ok _) = []
command_failures (Err (command.Settling error)) = failures_in error
command_failures (Err command.OutOfMemory) = []
command_failures (Err (command.Run _)) = []
command_failures (Err (command.Updating error)) = failures_in error
