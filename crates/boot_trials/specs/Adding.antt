-- Runs that begin a trial of an entry that is there, or of one that they add.
use Rattle.std.specs.Prelude.{◌≡◌, ◌⊎◌, ℕ, List, Some, None}
use Rattle.uefi_vars.specs.Vars.{Variables}
use Rattle.boot_edits.specs.Run.{IsRun, IsRunFault}
use Rattle.boot_edits.specs.declared.addition.Addition.{Addition}
use Rattle.boot_edits.specs.declared.answer.EditAnswer.{EditAnswer}
use Rattle.boot_edits.specs.declared.answer.EditAnswer.TheVariants.{Done, Added, Present}
use Rattle.boot_edits.specs.declared.edit.Edit.TheVariants.{Add}
use Rattle.boot_edits.specs.declared.run.EditRunFault.{EditRunFault}
use Rattle.boot_trials.specs.declared.adding.BegunTrial.{BegunTrial}
use Rattle.boot_trials.specs.declared.adding.TrialTarget.{TrialTarget}
use Rattle.boot_trials.specs.declared.adding.TrialTarget.TheVariants as target
use Rattle.boot_trials.specs.Run.{IsTry, IsTryFault}

-- this is the entry that was added, or that was there
abbrev pub IsOfEntry : EditAnswer → ℕ → Type 0
IsOfEntry (Added number) entry = entry ≡ number
IsOfEntry (Present number) entry = entry ≡ number
IsOfEntry Done entry = ⊥

-- the entry is added, and its trial begins
pub record IsAddedTry (addition : Addition) (start : List ℕ) (from to : Variables) (begun : BegunTrial) : Type 0 where
  pub between : Variables
  pub answer : EditAnswer
  pub told : begun.added ≡ Some answer
  pub added : IsRun (Add addition) from between answer
  pub entry : ℕ
  pub names : IsOfEntry answer entry
  pub tried : IsTry entry start between to begun.trial

-- it could be added, but isn't tried for this fault
pub record IsUntried (addition : Addition) (from : Variables) (f : EditRunFault) : Type 0 where
  pub between : Variables
  pub answer : EditAnswer
  pub added : IsRun (Add addition) from between answer
  pub entry : ℕ
  pub names : IsOfEntry answer entry
  pub refused : IsTryFault entry between f

-- why the entry isn't added and tried
abbrev pub IsAddedTryFault : Addition → Variables → EditRunFault → Type 0
IsAddedTryFault addition from f = IsRunFault (Add addition) from f ⊎ IsUntried addition from f

-- the trial of this begins
abbrev pub IsBegun : TrialTarget → List ℕ → Variables → Variables → BegunTrial → Type 0
IsBegun (target.There entry) start from to begun = (begun.added ≡ None) × IsTry entry start from to begun.trial
IsBegun (target.Added addition) start from to begun = IsAddedTry addition start from to begun

-- why it doesn't begin
abbrev pub IsBeginFault : TrialTarget → Variables → EditRunFault → Type 0
IsBeginFault (target.There entry) from f = IsTryFault entry from f
IsBeginFault (target.Added addition) from f = IsAddedTryFault addition from f
