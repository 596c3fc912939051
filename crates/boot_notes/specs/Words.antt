-- The words of faults, and their places: a fault's name, and after one blank its place in decimal.
use Rattle.std.specs.Prelude.{ℕ, List, ◌++◌, codes, Option, Some, None}
use Rattle.std.specs.Fmt.{decimal}
use Rattle.boot_notes.specs.declared.fault.NotesFault.{NotesFault}
use Rattle.boot_notes.specs.declared.fault.NotesFault.TheVariants as fault

abbrev pub notes_fault_words : NotesFault → List ℕ
notes_fault_words (fault.Truncated place) = codes "Truncated " ++ decimal place
notes_fault_words (fault.TooMany place) = codes "TooMany " ++ decimal place
notes_fault_words fault.OutOfMemory = codes "OutOfMemory"

abbrev pub notes_fault_place : NotesFault → Option ℕ
notes_fault_place (fault.Truncated place) = Some place
notes_fault_place (fault.TooMany place) = Some place
notes_fault_place fault.OutOfMemory = None
