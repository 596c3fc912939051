-- The journal file: a journal, and the name of its machine, as bytes.
use Rattle.std.specs.Prelude.{◌≡◌, ℕ, List, [], ◌∷◌, ◌++◌, Option, Some, None, IfSome}
use Rattle.std.specs.List.{flat_map}
use Rattle.uefi_vars.specs.Set.{name_bytes, data_bytes}
use Rattle.uefi_vars.specs.BootChange.{ChangeParts}
use Rattle.boot_journal.specs.declared.journal_file.JournalFile.{JournalFile}
use Rattle.boot_journal.specs.Journal.{JournalParts, PendingParts, Makes, TakesBack}
use Rattle.boot_journal.specs.JournalValue.{IsJournal}
use Rattle.machine_names.specs.MachineName.{IsMachineName}

-- the four bytes at the start of a file of version 1, and of one of version 2: BKJ1, BKJ2
abbrev pub magic_1 : List ℕ
magic_1 = 0x42 ∷ 0x4B ∷ 0x4A ∷ 0x31 ∷ []

abbrev pub magic_2 : List ℕ
magic_2 = 0x42 ∷ 0x4B ∷ 0x4A ∷ 0x32 ∷ []

-- the byte that says that changes are being made, and the one that says that they are taken back
abbrev pub making : ℕ
making = 1

abbrev pub taking_back : ℕ
taking_back = 2

-- the bytes of a value: none of one that isn't there
abbrev pub contents : Option (List ℕ) → List ℕ
contents None = []
contents (Some bytes) = bytes

-- A value that may not be there: its length in four bytes, which can state it if IsData holds, and its bytes. No value
-- that is there has the length 0.
abbrev pub value_bytes : Option (List ℕ) → List ℕ
value_bytes value = data_bytes (contents value)

-- a change: the variable's name, and its data before and after
abbrev pub change_bytes : ChangeParts → List ℕ
change_bytes change = name_bytes change.name ++ (value_bytes change.before ++ value_bytes change.after)

abbrev pub changes_bytes : List ChangeParts → List ℕ
changes_bytes changes = flat_map change_bytes changes

-- what is still to be done: nothing, or which way, under which identity that began, and the changes
abbrev pub pending_bytes : Option PendingParts → List ℕ
pending_bytes None = []
pending_bytes (Some (Makes former changes boot)) = making ∷ (name_bytes boot ++ (value_bytes former ++ changes_bytes changes))
pending_bytes (Some (TakesBack changes boot)) = taking_back ∷ (name_bytes boot ++ changes_bytes changes)

-- the body of the file: BootKeepState, and what is still to be done
abbrev pub body_bytes : JournalParts → List ℕ
body_bytes journal = value_bytes journal.state ++ pending_bytes journal.pending

-- What is before the body: the magic of version 1; or that of version 2 and the machine's name, its length in four bytes
-- before it.
abbrev pub head_bytes : Option (List ℕ) → List ℕ
head_bytes None = magic_1
head_bytes (Some name) = magic_2 ++ data_bytes name

-- the spelling of a journal with the name of its machine, or without one
abbrev pub file_bytes : JournalFile → List ℕ
file_bytes file = head_bytes file.machine ++ body_bytes file.journal

-- the journal can be one, and the name too
pub record IsJournalFile (file : JournalFile) : Type 0 where
  pub machine : IfSome file.machine IsMachineName
  pub journal : IsJournal file.journal

-- the bytes, all of them, spell the journal and the name
abbrev pub SpellsJournalFile : List ℕ → JournalFile → Type 0
SpellsJournalFile bytes file = IsJournalFile file × (bytes ≡ file_bytes file)

-- the journal of the machine of this name
abbrev pub of_machine : List ℕ → JournalParts → JournalFile
of_machine name journal = record { machine = Some name; journal = journal }
