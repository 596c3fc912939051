-- The words of faults: a fault's name and the words of the fault it holds, after one blank, or the latter alone.
use Rattle.std.specs.Prelude.{ℕ, List, ◌++◌, codes}
use Rattle.boot_requests.specs.Words.{open_fault_words}
use Rattle.boot_requests.specs.ScriptWords.{script_fault_words}
use Rattle.boot_commands.specs.declared.fault.ScriptRunFault.{ScriptRunFault}
use Rattle.boot_commands.specs.declared.fault.ScriptRunFault.TheVariants as fault
use Rattle.boot_commands.specs.declared.file_fault.InputFault.{InputFault}
use Rattle.boot_commands.specs.declared.file_fault.InputFault.TheVariants as input
use Rattle.boot_commands.specs.declared.file_fault.OutputFault.{OutputFault}
use Rattle.boot_commands.specs.declared.file_fault.OutputFault.TheVariants as output

abbrev pub script_run_fault_words : ScriptRunFault → List ℕ
script_run_fault_words (fault.Script script_fault) = script_fault_words script_fault
script_run_fault_words (fault.Open open_fault) = codes "Open " ++ open_fault_words open_fault
script_run_fault_words fault.Read = codes "Read"
script_run_fault_words fault.Write = codes "Write"
script_run_fault_words fault.TooMuch = codes "TooMuch"
script_run_fault_words fault.OutOfMemory = codes "OutOfMemory"

abbrev pub input_fault_words : InputFault → List ℕ
input_fault_words input.TooMuch = codes "TooMuch"
input_fault_words input.Read = codes "Read"
input_fault_words input.OutOfMemory = codes "OutOfMemory"

abbrev pub output_fault_words : OutputFault → List ℕ
output_fault_words output.Write = codes "Write"
output_fault_words output.OutOfMemory = codes "OutOfMemory"
