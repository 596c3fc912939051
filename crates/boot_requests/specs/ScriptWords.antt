-- The words of what scripts and streams are refused for: a fault's name and its number in decimal, or the words of the
-- fault it holds, after one blank.
use Rattle.std.specs.Prelude.{ℕ, List, ◌++◌, codes}
use Rattle.std.specs.Fmt.{decimal}
use Rattle.boot_requests.specs.Words.{feed_fault_words}
use Rattle.boot_requests.specs.declared.script_fault.ScriptFault.{ScriptFault}
use Rattle.boot_requests.specs.declared.script_fault.ScriptFault.TheVariants as fault

abbrev pub script_fault_words : ScriptFault → List ℕ
script_fault_words (fault.BadLine number) = codes "BadLine " ++ decimal number
script_fault_words (fault.Stream feed_fault) = codes "Stream " ++ feed_fault_words feed_fault
script_fault_words (fault.Rest count) = codes "Rest " ++ decimal count
script_fault_words fault.OutOfMemory = codes "OutOfMemory"
