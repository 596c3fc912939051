-- The words of faults: a fault's name, and after one blank the number of the entry, as the entry's name has it, or the words
-- of the fault that it holds.
use Rattle.std.specs.Prelude.{ℕ, List, ◌++◌, codes}
use Rattle.uefi_option.specs.Words.{option_fault_words}
use Rattle.uefi_vars.specs.Name.{four_digits}
use Rattle.boot_edits.specs.declared.fault.EditFault.{EditFault}
use Rattle.boot_edits.specs.declared.fault.EditFault.TheVariants as edit
use Rattle.boot_edits.specs.declared.run.EditRunFault.{EditRunFault}
use Rattle.boot_edits.specs.declared.run.EditRunFault.TheVariants as run

abbrev pub edit_fault_words : EditFault → List ℕ
edit_fault_words (edit.BadOption fault) = codes "BadOption " ++ option_fault_words fault
edit_fault_words edit.OptionTooLong = codes "OptionTooLong"
edit_fault_words (edit.Taken number) = codes "Taken " ++ four_digits number
edit_fault_words edit.NoFree = codes "NoFree"
edit_fault_words (edit.Twice number) = codes "Twice " ++ four_digits number
edit_fault_words (edit.Missing number) = codes "Missing " ++ four_digits number
edit_fault_words (edit.Stale number) = codes "Stale " ++ four_digits number
edit_fault_words (edit.NoOption number) = codes "NoOption " ++ four_digits number
edit_fault_words edit.BadOrder = codes "BadOrder"
edit_fault_words edit.BadNext = codes "BadNext"
edit_fault_words edit.OrderTooLong = codes "OrderTooLong"
edit_fault_words edit.OutOfMemory = codes "OutOfMemory"

abbrev pub edit_run_fault_words : EditRunFault → List ℕ
edit_run_fault_words (run.Edit fault) = codes "Edit " ++ edit_fault_words fault
edit_run_fault_words run.NoData = codes "NoData"
edit_run_fault_words run.TooLong = codes "TooLong"
