-- Notes at the start of a journal's file, as C is told of them.
use Rattle.std.specs.Prelude.{◌≡◌, ◌≢◌, ◌⊎◌, ℕ, ◌+◌, List, [], length}
use Rattle.boot_notes.specs.declared.fault.NotesFault.{NotesFault}
use Rattle.boot_notes.specs.Notes.{NotesParts, notes_of}
use Rattle.boot_notes.specs.Bytes.{HasNoNotes, SpellsNotes}
use Rattle.boot_notes.specs.Fault.{IsNotesFault}
use Rattle.bootkeep_c.specs.declared.failure.Failure.{Failure}
use Rattle.bootkeep_c.specs.Refusals.{bare, notes_failure}

-- the bytes begin as notes do, and aren't any, for this
abbrev pub IsNotesFailure : List ℕ → Failure → Type 0
IsNotesFailure bytes failed = (fault : NotesFault) × IsNotesFault bytes fault × (failed ≡ notes_failure fault)

-- so many bytes of notes are at the start: all but those of the file after them, or none
abbrev pub TakesNotes : List ℕ → ℕ → Type 0
TakesNotes bytes taken =
    (HasNoNotes bytes × (taken ≡ 0))
    ⊎ ((notes : NotesParts) × (file : List ℕ) × SpellsNotes bytes notes file × (taken + length file ≡ length bytes))

-- the notes at the start have this identity
abbrev pub IsIdentityIn : List ℕ → List ℕ → Type 0
IsIdentityIn bytes identity =
    (notes : NotesParts) × (file : List ℕ) × SpellsNotes bytes notes file × (identity ≡ notes.identity)

-- the bytes are notes with this identity and no digests, and nothing is after them
abbrev pub AreNewNotes : List ℕ → List ℕ → Type 0
AreNewNotes identity bytes = SpellsNotes bytes (notes_of identity []) []

-- it hasn't as many bytes as an identity
abbrev pub HasBadIdentity : List ℕ → Failure → Type 0
HasBadIdentity identity failed = (length identity ≢ 16) × (failed ≡ bare 0x0F03)
