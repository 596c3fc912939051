-- What is wrong with a script or a stream, or with the variables that it is to be run over.
use Rattle.std.specs.Prelude.{◌≡◌, ◌≢◌, ◌⊎◌, ℕ, ◌+◌, ◌<◌, ◌≤◌, Bool, true, false, List, length, Result, Ok, Err, ⊤}
use Rattle.uefi_vars.specs.Vars.{Variables}
use Rattle.boot_requests.specs.declared.event.Event.{Event}
use Rattle.boot_requests.specs.declared.fault.FeedFault.TheVariants as feeding
use Rattle.boot_requests.specs.declared.fault.OpenFault.{OpenFault}
use Rattle.boot_requests.specs.declared.fault.OpenFault.TheVariants as opening
use Rattle.boot_requests.specs.declared.script_fault.ScriptFault.{ScriptFault}
use Rattle.boot_requests.specs.declared.script_fault.ScriptFault.TheVariants as script
use Rattle.boot_requests.specs.Limits.{payload_max}
use Rattle.boot_requests.specs.StoredState.{IsOpenFault}
use Rattle.boot_commands.specs.declared.fault.ScriptRunFault.{ScriptRunFault}
use Rattle.boot_commands.specs.declared.fault.ScriptRunFault.TheVariants as fault
use Rattle.boot_requests.specs.declared.input_format.InputFormat.{InputFormat}
use Rattle.boot_requests.specs.declared.input_format.InputFormat.TheVariants as format
use Rattle.boot_requests.specs.InputFormat.{ReadsIn, IsFaultIn}

-- the most bytes of a script or a stream
abbrev pub script_max : ℕ
script_max = 67108864

-- the fault is that of variables that can't be kept
abbrev pub IsVarsFault : Variables → ScriptRunFault → Type 0
IsVarsFault vars (fault.Open open_fault) = IsOpenFault vars open_fault
IsVarsFault vars _ = ⊥

-- what a fault for which the events can't be read is to a run
abbrev pub run_fault_of : ScriptFault → ScriptRunFault
run_fault_of script.OutOfMemory = fault.OutOfMemory
run_fault_of script_fault = fault.Script script_fault

-- what a fault for which variables can't be kept is to a run
abbrev pub run_fault_of_open : OpenFault → ScriptRunFault
run_fault_of_open opening.OutOfMemory = fault.OutOfMemory
run_fault_of_open open_fault = fault.Open open_fault

-- The fault is the first of the bytes and the variables, by cases: there are too many bytes; otherwise the bytes have a
-- fault of their own, by their format; otherwise they are read as events, and the variables can't be kept.
abbrev pub IsFirstFaultIn : InputFormat → List ℕ → Variables → ScriptRunFault → Type 0
IsFirstFaultIn format bytes vars fault.TooMuch = script_max < length bytes
IsFirstFaultIn format bytes vars (fault.Script script_fault) = (length bytes ≤ script_max) × IsFaultIn format bytes script_fault
IsFirstFaultIn format bytes vars (fault.Open open_fault) =
    (length bytes ≤ script_max) × (events : List Event) × ReadsIn format bytes events × IsOpenFault vars open_fault
IsFirstFaultIn format bytes vars _ = ⊥

-- Bytes of this format may have this fault of their own, whatever they are. What is left of a frame is less than the
-- longest one, of twelve bytes and a payload.
abbrev pub MayBeIn : InputFormat → ScriptFault → Type 0
MayBeIn format.Script (script.BadLine number) = 0 < number
MayBeIn format.Script _ = ⊥
MayBeIn format.Stream (script.Stream feed_fault) = feed_fault ≢ feeding.OutOfMemory
MayBeIn format.Stream (script.Rest count) = (0 < count) × (count < 12 + payload_max)
MayBeIn format.Stream _ = ⊥

-- A run of bytes of this format over these variables may be refused for this fault, whatever the bytes are.
abbrev pub MayComeIn : InputFormat → Variables → ScriptRunFault → Type 0
MayComeIn format vars (fault.Script script_fault) = MayBeIn format script_fault
MayComeIn format vars (fault.Open open_fault) = IsOpenFault vars open_fault
MayComeIn format vars fault.Read = ⊤
MayComeIn format vars fault.Write = ⊤
MayComeIn format vars fault.TooMuch = ⊤
MayComeIn format vars fault.OutOfMemory = ⊤

-- whether the answer is that a read failed
abbrev pub failed_read : {T : Type 0} → Result T ScriptRunFault → Bool
failed_read (Ok _) = false
failed_read (Err fault.Read) = true
failed_read (Err _) = false

-- whether the answer is that a write failed
abbrev pub failed_write : {T : Type 0} → Result T ScriptRunFault → Bool
failed_write (Ok _) = false
failed_write (Err fault.Write) = true
failed_write (Err _) = false

-- the answer is this fault, unless a read failed or memory was refused
abbrev pub IsFaultUnless : {T : Type 0} → Result T ScriptRunFault → ScriptRunFault → Type 0
IsFaultUnless answer expected =
    (answer ≡ Err expected) ⊎ ((answer ≡ Err fault.Read) ⊎ (answer ≡ Err fault.OutOfMemory))
