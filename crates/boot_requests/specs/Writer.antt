-- Why a request has no frame.
use Rattle.boot_requests.specs.declared.fault.FrameFault.{FrameFault}
use Rattle.boot_requests.specs.declared.fault.FrameFault.TheVariants as fault

-- one of the faults with which a request is refused
abbrev pub IsWriteFault : FrameFault → Type 0
IsWriteFault fault.TooLong = Unit {0}
IsWriteFault fault.BadNumber = Unit {0}
IsWriteFault fault.OutOfMemory = Unit {0}
IsWriteFault _ = ⊥
