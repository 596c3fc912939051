-- Why variables aren't kept and streams aren't run.
use Rattle.std.specs.Prelude.{◌≡◌, ◌⊎◌, ℕ, List}
use Rattle.uefi_vars.specs.Vars.{Variables}
use Rattle.uefi_vars.specs.Set.{SpellsSet}
use Rattle.boot_requests.specs.declared.event.Event.{Event}
use Rattle.boot_requests.specs.declared.fault.OpenFault.{OpenFault}
use Rattle.boot_requests.specs.EventStream.{IsStream}
use Rattle.boot_requests.specs.StoredState.{IsOpenFault}
use Rattle.bootkeep_c.specs.declared.failure.Failure.{Failure}
use Rattle.bootkeep_c.specs.Refusals.{open_failure}
use Rattle.bootkeep_c.specs.Sets.{IsSetFailure}
use Rattle.bootkeep_c.specs.Runs.{IsStreamFailure}

-- variables can't be kept, for this
abbrev pub IsOpenFailure : Variables → Failure → Type 0
IsOpenFailure vars failed = (fault : OpenFault) × IsOpenFault vars fault × (failed ≡ open_failure fault)

-- the bytes aren't a set, or its variables can't be kept
abbrev pub IsKeepFailure : List ℕ → Failure → Type 0
IsKeepFailure set failed =
    IsSetFailure set failed ⊎ ((vars : Variables) × SpellsSet set vars × IsOpenFailure vars failed)

-- the bytes aren't a set, or the others aren't a stream, or the variables can't be kept
abbrev pub IsRunFailure : List ℕ → List ℕ → Failure → Type 0
IsRunFailure set stream failed =
    IsSetFailure set failed
    ⊎ (((vars : Variables) × SpellsSet set vars × IsStreamFailure stream failed)
    ⊎ ((vars : Variables) × (events : List Event) × SpellsSet set vars × IsStream stream events × IsOpenFailure vars failed))
