-- The words of a fault: its name and, if it has one, its place in decimal after a blank.
use Rattle.std.specs.Prelude.{ℕ, List, ◌++◌, codes, Option, Some, None}
use Rattle.std.specs.Fmt.{decimal}
use Rattle.boot_journal.specs.declared.fault.JournalFault.{JournalFault}
use Rattle.boot_journal.specs.declared.fault.JournalFault.TheVariants as fault
use Rattle.boot_journal.specs.declared.attributes.AttributesFault.{AttributesFault}
use Rattle.boot_journal.specs.declared.attributes.AttributesFault.TheVariants as attributes

abbrev pub journal_fault_words : JournalFault → List ℕ
journal_fault_words fault.BadMagic = codes "BadMagic"
journal_fault_words (fault.BadMachine place) = codes "BadMachine " ++ decimal place
journal_fault_words (fault.Truncated place) = codes "Truncated " ++ decimal place
journal_fault_words (fault.ValueTooLong place) = codes "ValueTooLong " ++ decimal place
journal_fault_words (fault.BadCourse place) = codes "BadCourse " ++ decimal place
journal_fault_words (fault.BadIdentity place) = codes "BadIdentity " ++ decimal place
journal_fault_words (fault.BadName place) = codes "BadName " ++ decimal place
journal_fault_words fault.OutOfMemory = codes "OutOfMemory"

abbrev pub journal_fault_place : JournalFault → Option ℕ
journal_fault_place fault.BadMagic = None
journal_fault_place (fault.BadMachine place) = Some place
journal_fault_place (fault.Truncated place) = Some place
journal_fault_place (fault.ValueTooLong place) = Some place
journal_fault_place (fault.BadCourse place) = Some place
journal_fault_place (fault.BadIdentity place) = Some place
journal_fault_place (fault.BadName place) = Some place
journal_fault_place fault.OutOfMemory = None

abbrev pub attributes_fault_words : AttributesFault → List ℕ
attributes_fault_words attributes.NoData = codes "NoData"
attributes_fault_words attributes.TooLong = codes "TooLong"
attributes_fault_words attributes.OutOfMemory = codes "OutOfMemory"
