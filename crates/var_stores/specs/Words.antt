-- The words of faults: a fault's name, and after one blank its number in decimal.
use Rattle.std.specs.Prelude.{ℕ, List, ◌++◌, codes, Option, Some, None}
use Rattle.std.specs.Fmt.{decimal}
use Rattle.var_stores.specs.declared.fault.StoreFault.{StoreFault}
use Rattle.var_stores.specs.declared.fault.StoreFault.TheVariants as fault
use Rattle.var_stores.specs.declared.write_fault.WriteFault.{WriteFault}
use Rattle.var_stores.specs.declared.write_fault.WriteFault.TheVariants as write_fault

abbrev pub store_fault_words : StoreFault → List ℕ
store_fault_words fault.NoVolume = codes "NoVolume"
store_fault_words fault.BadHeader = codes "BadHeader"
store_fault_words fault.NoStore = codes "NoStore"
store_fault_words fault.Unauthenticated = codes "Unauthenticated"
store_fault_words fault.BadStore = codes "BadStore"
store_fault_words (fault.CutRecord place) = codes "CutRecord " ++ decimal place
store_fault_words fault.OutOfMemory = codes "OutOfMemory"

abbrev pub store_fault_place : StoreFault → Option ℕ
store_fault_place (fault.CutRecord place) = Some place
store_fault_place _ = None

abbrev pub write_fault_words : WriteFault → List ℕ
write_fault_words (write_fault.Store f) = store_fault_words f
write_fault_words write_fault.Full = codes "Full"
write_fault_words write_fault.OutOfMemory = codes "OutOfMemory"

-- why variables aren't written to a file that isn't a store
abbrev pub write_fault_of : StoreFault → WriteFault
write_fault_of fault.OutOfMemory = write_fault.OutOfMemory
write_fault_of f = write_fault.Store f
