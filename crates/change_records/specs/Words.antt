-- The words of faults, in a sentence that goes on from what the file is called. A place and the number of a word are in
-- decimal.
use Rattle.std.specs.Prelude.{ℕ, List, ◌++◌, codes}
use Rattle.std.specs.Fmt.{decimal}
use Rattle.uefi_vars.specs.Words.{set_fault_words}
use Rattle.change_records.specs.declared.fault.RecordFault.{RecordFault}
use Rattle.change_records.specs.declared.fault.RecordFault.TheVariants as fault
use Rattle.change_records.specs.declared.fault.WriteFault.{WriteFault}
use Rattle.change_records.specs.declared.fault.WriteFault.TheVariants as write_fault

abbrev pub record_fault_words : RecordFault → List ℕ
record_fault_words fault.BadMagic = codes "it doesn't begin with BKH1"
record_fault_words (fault.Truncated place) = codes "it ends in the field at byte " ++ decimal place
record_fault_words fault.TooFewFields = codes "it has fewer than four fields"
record_fault_words fault.BadMachine = codes "its machine's name has no byte, or more than 4096"
record_fault_words fault.BadTime = codes "its time doesn't have eight bytes"
record_fault_words (fault.BadBefore set_fault) = codes "its set before the change is damaged: " ++ set_fault_words set_fault
record_fault_words (fault.BadAfter set_fault) = codes "its set after the change is damaged: " ++ set_fault_words set_fault
record_fault_words (fault.BadWord number) = codes "word " ++ (decimal number ++ codes " of its command isn't UTF-8")
record_fault_words fault.OutOfMemory = codes "out of memory"

abbrev pub write_fault_words : WriteFault → List ℕ
write_fault_words write_fault.TooLong = codes "a field of the record is too long"
write_fault_words write_fault.OutOfMemory = codes "out of memory"
