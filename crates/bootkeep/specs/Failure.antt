-- How the program ends if it did not do what it was asked to.
use Rattle.std.specs.Prelude.{◌≡◌, ◌⊎◌, ℕ, List, Result, IsErrAnd, ⊤}
use Rattle.std.specs.String.{string_bytes}
use Rattle.uefi_vars.specs.Vars.{Variables}
use Rattle.bootkeep.specs.declared.failure.Failure.{Failure}
use Rattle.bootkeep.specs.declared.failure.Failure.TheVariants as failure
use Rattle.boot_commands.specs.declared.fault.ScriptRunFault.{ScriptRunFault}
use Rattle.boot_commands.specs.declared.fault.ScriptRunFault.TheVariants as running
use Rattle.boot_requests.specs.declared.input_format.InputFormat.{InputFormat}
use Rattle.boot_commands.specs.declared.file_fault.InputFault.{InputFault}
use Rattle.boot_commands.specs.declared.file_fault.InputFault.TheVariants as input
use Rattle.boot_commands.specs.declared.file_fault.OutputFault.{OutputFault}
use Rattle.boot_commands.specs.declared.file_fault.OutputFault.TheVariants as output
use Rattle.boot_commands.specs.declared.refusal.Refusal.{Refusal}
use Rattle.boot_commands.specs.declared.refusal.Refusal.TheVariants as refusal
use Rattle.boot_commands.specs.RunFault.{IsFirstFaultIn}
use Rattle.boot_commands.specs.Words.{script_run_fault_words}

-- the status that the program ends with
abbrev pub status_of : Failure → ℕ
status_of (failure.Refused words) = 1
status_of failure.TooMuch = 1
status_of failure.CommandLine = 2
status_of failure.Read = 3
status_of failure.Write = 3
status_of failure.Memory = 4

-- what a refused report is to the program
abbrev pub failure_of : Refusal → Failure
failure_of (refusal.Input words) = failure.Refused words
failure_of refusal.Memory = failure.Memory

-- what an input that isn't read is to the program
abbrev pub failure_of_input : InputFault → Failure
failure_of_input input.TooMuch = failure.TooMuch
failure_of_input input.Read = failure.Read
failure_of_input input.OutOfMemory = failure.Memory

-- what an output that isn't written is to the program
abbrev pub failure_of_output : OutputFault → Failure
failure_of_output output.Write = failure.Write
failure_of_output output.OutOfMemory = failure.Memory

-- P of the words, if the input is refused with words
abbrev pub IfRefused : Failure → (List ℕ → Type 0) → Type 0
IfRefused (failure.Refused words) P = P (string_bytes words)
IfRefused _ P = ⊤

-- the failure tells of a script or of variables by these words, or memory was refused for them
abbrev pub IsRefusedBy : List ℕ → Failure → Type 0
IsRefusedBy words (failure.Refused told) = string_bytes told ≡ words
IsRefusedBy words failure.Memory = ⊤
IsRefusedBy words _ = ⊥

-- the failure is what a fault of a script is to the program
abbrev pub IsFailureOf : ScriptRunFault → Failure → Type 0
IsFailureOf running.Read made = made ≡ failure.Read
IsFailureOf running.Write made = made ≡ failure.Write
IsFailureOf running.TooMuch made = made ≡ failure.TooMuch
IsFailureOf running.OutOfMemory made = made ≡ failure.Memory
IsFailureOf (running.Script fault) made = IsRefusedBy (script_run_fault_words (running.Script fault)) made
IsFailureOf (running.Open fault) made = IsRefusedBy (script_run_fault_words (running.Open fault)) made

-- the answer is what this fault is to the program, unless a read failed or memory was refused
abbrev pub IsFailureUnless : {T : Type 0} → Result T Failure → ScriptRunFault → Type 0
IsFailureUnless answer expected =
    IsErrAnd answer (λ made. IsFailureOf expected made ⊎ ((made ≡ failure.Read) ⊎ (made ≡ failure.Memory)))

-- the words tell the first fault of a script or a stream and of the variables that it is to be run over
abbrev pub TellsScriptFault : InputFormat → List ℕ → Variables → List ℕ → Type 0
TellsScriptFault format bytes vars words =
    (fault : ScriptRunFault) × IsFirstFaultIn format bytes vars fault × (words ≡ script_run_fault_words fault)

-- the status that a program ends with if a script is refused for this fault
abbrev pub script_status_of : ScriptRunFault → ℕ
script_status_of running.Read = 3
script_status_of running.Write = 3
script_status_of running.OutOfMemory = 4
script_status_of _ = 1
