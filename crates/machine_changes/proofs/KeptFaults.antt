-- A change that isn't prepared is one that its run leads to.
use Rattle.boot_journal.specs.Cause.{IfRefused}
use Rattle.boot_journal.specs.declared.machine.CallError.{CallError}
use Rattle.boot_journal.specs.declared.machine.CallError.TheVariants.{OutOfMemory, Refused}
use Rattle.machine_changes.specs.declared.kept_run.KeptFault.{KeptFault}
use Rattle.machine_changes.specs.declared.kept_run.KeptFault.TheVariants.{Run, Telling, History, Beginning}
use Rattle.machine_changes.specs.KeptFault.{IsKeptFault, IsUnprepared}

-- what keeps the change from being prepared is a fault of the run before which it is kept
fault_of : {F : Type 0} (Refuses : F → Type 0) (Changes Leads : Type 0) → (Changes → Leads) → (fault : KeptFault F)
    → IsUnprepared Changes fault → IsKeptFault fault Refuses Leads
fault_of Refuses Changes Leads leads (Run fault) is = absurd is
fault_of Refuses Changes Leads leads (Telling failure) is = is
fault_of Refuses Changes Leads leads (History failure) is = leads is
fault_of Refuses Changes Leads leads (Beginning failure) is = is

-- the same of an error
pub unprepared_so : {F : Type 0} (Refuses : F → Type 0) (Changes Leads : Type 0) → (Changes → Leads)
    → (error : CallError (KeptFault F)) → IfRefused error (IsUnprepared Changes)
    → IfRefused error (λ fault. IsKeptFault fault Refuses Leads)
unprepared_so Refuses Changes Leads leads OutOfMemory is = tt
unprepared_so Refuses Changes Leads leads (Refused fault) is = fault_of Refuses Changes Leads leads fault is
