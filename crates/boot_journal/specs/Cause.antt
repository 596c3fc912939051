-- Why a call fails.
use Rattle.std.specs.Prelude.{◌≡◌, ◌⊎◌, ℕ, ◌+◌, ◌<◌, ◌≤◌, Result, Ok, Err, Option, Some, None, List, [], ◌∷◌, ◌++◌}
use Rattle.boot_journal.specs.declared.machine.CallError.{CallError}
use Rattle.boot_journal.specs.declared.machine.CallError.TheVariants.{OutOfMemory, Refused}
use Rattle.boot_journal.specs.declared.machine.UpdateError.{UpdateError}
use Rattle.boot_journal.specs.declared.machine.UpdateError.TheVariants as update

-- that the machine refused something is told only if it did since
pub record HasCause {T E : Type 0} (before now : ℕ) (result : Result T (CallError E)) : Type 0 where
  pub later : before ≤ now
  pub refused : (refusal : E) → result ≡ Err (Refused refusal) → before < now

-- the same of an update or a settling
pub record HasUpdateCause {T E : Type 0} (before now : ℕ) (result : Result T (UpdateError E)) : Type 0 where
  pub later : before ≤ now
  pub taken_back : (refusal : E) → result ≡ Err (update.TakenBack (Refused refusal)) → before < now
  pub unsettled : (refusal : E) (second : Option (CallError E)) → result ≡ Err (update.Unsettled (Refused refusal) second) → before < now
  pub both : (refusal second : E) → result ≡ Err (update.Unsettled (Refused refusal) (Some (Refused second))) → 1 + before < now

-- what an error says
abbrev pub IfNothingDone : {E : Type 0} → UpdateError E → Type 0 → Type 0
IfNothingDone update.OutOfMemory Is = Is
IfNothingDone (update.TakenBack _) Is = Unit {0}
IfNothingDone (update.Unsettled _ _) Is = Unit {0}

-- if the error says that the update was taken back, this is so
abbrev pub IfTakenBack : {E : Type 0} → UpdateError E → Type 0 → Type 0
IfTakenBack update.OutOfMemory Is = Unit {0}
IfTakenBack (update.TakenBack _) Is = Is
IfTakenBack (update.Unsettled _ _) Is = Unit {0}

-- it wasn't tried to take anything back
abbrev pub IfUntried : {E : Type 0} → UpdateError E → Type 0 → Type 0
IfUntried update.OutOfMemory Is = Unit {0}
IfUntried (update.TakenBack _) Is = Unit {0}
IfUntried (update.Unsettled _ None) Is = Is
IfUntried (update.Unsettled _ (Some _)) Is = Unit {0}

-- it was tried to take something back
abbrev pub IfTried : {E : Type 0} → UpdateError E → Type 0 → Type 0
IfTried update.OutOfMemory Is = Unit {0}
IfTried (update.TakenBack _) Is = Is
IfTried (update.Unsettled _ None) Is = Unit {0}
IfTried (update.Unsettled _ (Some _)) Is = Is

-- the error tells this cause
abbrev pub IsCausedBy : {E : Type 0} → CallError E → UpdateError E → Type 0
IsCausedBy cause update.OutOfMemory = ⊥
IsCausedBy cause (update.TakenBack told) = told ≡ cause
IsCausedBy cause (update.Unsettled told None) = ⊥
IsCausedBy cause (update.Unsettled told (Some second)) = told ≡ cause

-- why a call was refused
abbrev pub IfRefused : {E : Type 0} → CallError E → (E → Type 0) → Type 0
IfRefused OutOfMemory Is = Unit {0}
IfRefused (Refused reason) Is = Is reason

-- ---- what failed

-- what failed, the first one first, if that is told, and then these
abbrev pub and_failed : {E : Type 0} → Option (List (CallError E)) → List (CallError E) → Option (List (CallError E))
and_failed None more = None
and_failed (Some failures) more = Some (failures ++ more)

-- these failed since, and nothing else did, if it is still told what did
pub record HaveFailed {E : Type 0} (before now : Option (List (CallError E))) (since : List (CallError E)) : Type 0 where
  pub is : (now ≡ None) ⊎ (now ≡ and_failed before since)

-- that of a call
abbrev pub failures_of : {T E : Type 0} → Result T (CallError E) → List (CallError E)
failures_of (Ok _) = []
failures_of (Err error) = error ∷ []

-- the failures that an error tells: the move that was refused, and then the one by which it was to be taken back
abbrev pub failures_in : {E : Type 0} → UpdateError E → List (CallError E)
failures_in update.OutOfMemory = []
failures_in (update.TakenBack cause) = cause ∷ []
failures_in (update.Unsettled cause None) = cause ∷ []
failures_in (update.Unsettled cause (Some second)) = cause ∷ second ∷ []

-- those that an update or a settling tells: none, if it was done
abbrev pub update_failures : {T E : Type 0} → Result T (UpdateError E) → List (CallError E)
update_failures (Ok _) = []
update_failures (Err error) = failures_in error

-- the failure of taking something back
abbrev pub second_in : {E : Type 0} → UpdateError E → List (CallError E)
second_in update.OutOfMemory = []
second_in (update.TakenBack _) = []
second_in (update.Unsettled _ None) = []
second_in (update.Unsettled _ (Some second)) = second ∷ []

-- a call fails for memory alone, and storage had no failure since, or for what storage failed since
abbrev pub IsFailureOf : {E : Type 0} → Option (List (CallError E)) → Option (List (CallError E)) → CallError E → Type 0
IsFailureOf before now error = ((error ≡ OutOfMemory) × (now ≡ before)) ⊎ (now ≡ and_failed before (error ∷ []))
