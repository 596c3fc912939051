-- The places of faults, and their words: a fault's name, and after one blank each of its numbers in decimal, and the
-- words of the fault that it holds.
use Rattle.std.specs.Prelude.{ℕ, List, ◌++◌, codes, Option, Some, None}
use Rattle.std.specs.Fmt.{decimal}
use Rattle.uefi_path.specs.Words.{path_fault_words}
use Rattle.uefi_option.specs.declared.fault.OptionFault.{OptionFault}
use Rattle.uefi_option.specs.declared.fault.OptionFault.TheVariants as fault

abbrev pub option_fault_words : OptionFault → List ℕ
option_fault_words (fault.Short found) = codes "Short"
option_fault_words fault.NoTerminator = codes "NoTerminator"
option_fault_words (fault.ListPastEnd stated left) = codes "ListPastEnd"
option_fault_words fault.EmptyList = codes "EmptyList"
option_fault_words (fault.Path place path_fault) =
    codes "Path " ++ (decimal place ++ (codes " " ++ path_fault_words path_fault))
option_fault_words fault.ZeroUnit = codes "ZeroUnit"
option_fault_words fault.ListTooLong = codes "ListTooLong"
option_fault_words fault.OutOfMemory = codes "OutOfMemory"

-- where the fault is
abbrev pub option_fault_place : OptionFault → Option ℕ
option_fault_place (fault.Short found) = None
option_fault_place fault.NoTerminator = None
option_fault_place (fault.ListPastEnd stated left) = None
option_fault_place fault.EmptyList = None
option_fault_place (fault.Path place _) = Some place
option_fault_place fault.ZeroUnit = None
option_fault_place fault.ListTooLong = None
option_fault_place fault.OutOfMemory = None
