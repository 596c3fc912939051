-- What errors say, and what follows from it for what is said above them: by the cases of an error.
use Rattle.std.proofs.Common.{Some, None, Result, Ok, Err, IfErr}
use Rattle.boot_journal.specs.declared.machine.UpdateError.{UpdateError}
use Rattle.boot_journal.specs.declared.machine.UpdateError.TheVariants.{OutOfMemory, TakenBack, Unsettled}
use Rattle.boot_journal.specs.Cause.{IfNothingDone, IfTakenBack, IfUntried, IfTried}

-- an error that doesn't say that nothing was done
pub something_done : {T E : Type 0} (X : Type 0) (result : Result T (UpdateError E)) → IfErr result (λ error. IfNothingDone error ⊥)
    → IfErr result (λ error. IfNothingDone error X)
something_done X (Ok x) is = tt
something_done X (Err OutOfMemory) is = absurd is
something_done X (Err (TakenBack cause)) is = tt
something_done X (Err (Unsettled cause second)) is = tt

pub taken_back_then : {T E : Type 0} (X Y : Type 0) (result : Result T (UpdateError E)) → (X → Y) → IfErr result (λ error. IfTakenBack error X)
    → IfErr result (λ error. IfTakenBack error Y)
taken_back_then X Y (Ok x) f is = tt
taken_back_then X Y (Err OutOfMemory) f is = tt
taken_back_then X Y (Err (TakenBack cause)) f is = f is
taken_back_then X Y (Err (Unsettled cause second)) f is = tt

pub untried_then : {T E : Type 0} (X Y : Type 0) (result : Result T (UpdateError E)) → (X → Y) → IfErr result (λ error. IfUntried error X)
    → IfErr result (λ error. IfUntried error Y)
untried_then X Y (Ok x) f is = tt
untried_then X Y (Err OutOfMemory) f is = tt
untried_then X Y (Err (TakenBack cause)) f is = tt
untried_then X Y (Err (Unsettled cause None)) f is = f is
untried_then X Y (Err (Unsettled cause (Some second))) f is = tt

pub tried_then : {T E : Type 0} (X Y : Type 0) (result : Result T (UpdateError E)) → (X → Y) → IfErr result (λ error. IfTried error X)
    → IfErr result (λ error. IfTried error Y)
tried_then X Y (Ok x) f is = tt
tried_then X Y (Err OutOfMemory) f is = tt
tried_then X Y (Err (TakenBack cause)) f is = f is
tried_then X Y (Err (Unsettled cause None)) f is = tt
tried_then X Y (Err (Unsettled cause (Some second))) f is = f is
