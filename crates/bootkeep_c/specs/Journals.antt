-- Whether a journal's file tells of something that is left to do.
use Rattle.std.specs.Prelude.{◌≡◌, ◌≢◌, ◌⊎◌, ℕ, List, [], Option, Some, None}
use Rattle.boot_journal.specs.declared.fault.JournalFault.{JournalFault}
use Rattle.boot_journal.specs.declared.journal_file.JournalFile.{JournalFile}
use Rattle.boot_journal.specs.Bytes.{SpellsJournalFile}
use Rattle.boot_journal.specs.Fault.{IsJournalFault}
use Rattle.boot_journal.specs.Journal.{PendingParts}
use Rattle.bootkeep_c.specs.declared.failure.Failure.{Failure}
use Rattle.bootkeep_c.specs.Refusals.{journal_failure}

-- 1 if nothing is left to do
abbrev pub idle_number : Option PendingParts → ℕ
idle_number None = 1
idle_number (Some pending) = 0

-- The bytes of the file are nothing, and no journal is begun yet; or they spell one, of whatever machine.
abbrev pub IsIdleIn : List ℕ → ℕ → Type 0
IsIdleIn bytes told =
    ((bytes ≡ []) × (told ≡ 1))
    ⊎ ((file : JournalFile) × SpellsJournalFile bytes file × (told ≡ idle_number file.journal.pending))

-- why bytes aren't the file of a journal
abbrev pub IsUnreadJournal : List ℕ → Failure → Type 0
IsUnreadJournal bytes failed =
    (bytes ≢ []) × ((fault : JournalFault) × IsJournalFault bytes fault × (failed ≡ journal_failure fault))
