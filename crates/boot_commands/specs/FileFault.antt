-- Why an input isn't read, or an output isn't written.
use Rattle.std.specs.declared.io.ErrorKind.{ErrorKind}
use Rattle.std.specs.declared.io.ErrorKind.TheVariants.{OutOfMemory}
use Rattle.boot_commands.specs.declared.file_fault.InputFault.{InputFault}
use Rattle.boot_commands.specs.declared.file_fault.InputFault.TheVariants as input
use Rattle.boot_commands.specs.declared.file_fault.OutputFault.{OutputFault}
use Rattle.boot_commands.specs.declared.file_fault.OutputFault.TheVariants as output

-- what an error of the system is to what is read, and to what is written, by its kind
abbrev pub input_fault_of : ErrorKind → InputFault
input_fault_of OutOfMemory = input.OutOfMemory
input_fault_of _ = input.Read

abbrev pub output_fault_of : ErrorKind → OutputFault
output_fault_of OutOfMemory = output.OutOfMemory
output_fault_of _ = output.Write
