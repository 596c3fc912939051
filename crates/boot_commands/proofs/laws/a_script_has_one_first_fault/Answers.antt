use Rattle.boot_requests.specs.declared.input_format.InputFormat.TheVariants as format
use Rattle.boot_commands.proofs.Inputs.{one_first}
use Rattle.boot_commands.proofs.laws.a_script_has_one_first_fault.Goals as goal

pub returns : goal.returns
returns c = one_first format.Script
