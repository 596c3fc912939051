-- The fault of notes at the start of a file. A place is an offset in bytes from the start of the file.
use Rattle.std.specs.Prelude.{◌≡◌, ◌⊎◌, ℕ, suc, ◌+◌, ◌*◌, ◌<◌, ◌≤◌, List, ◌∷◌, ◌++◌, length}
use Rattle.boot_notes.specs.declared.fault.NotesFault.{NotesFault}
use Rattle.boot_notes.specs.declared.fault.NotesFault.TheVariants as fault
use Rattle.boot_notes.specs.Notes.{digests_max}
use Rattle.boot_notes.specs.Bytes.{magic_3}

-- where the identity is in a file, the count, and the digest with so many others before it
abbrev pub identity_at : ℕ
identity_at = 4

abbrev pub count_at : ℕ
count_at = 20

abbrev pub digest_at : ℕ → ℕ
digest_at index = 21 + 12 * index

-- behind the magic are an identity, this count, and these
pub record StatesCount (body : List ℕ) (count : ℕ) (behind : List ℕ) : Type 0 where
  pub identity : List ℕ
  pub len : length identity ≡ 16
  pub parts : body ≡ identity ++ (count ∷ behind)

-- Of so many digests, of twelve bytes each, the bytes end in the one with this many before it.
pub record EndsInDigest (count : ℕ) (bytes : List ℕ) (index : ℕ) : Type 0 where
  pub below : index < count
  pub from : 12 * index ≤ length bytes
  pub cut : length bytes < 12 * suc index

-- behind the magic is a count of at most 128, and the file ends in the digest at this place
pub record HasCutDigest (body : List ℕ) (place : ℕ) : Type 0 where
  pub count : ℕ
  pub behind : List ℕ
  pub index : ℕ
  pub stated : StatesCount body count behind
  pub few : count ≤ digests_max
  pub ends : EndsInDigest count behind index
  pub at : place ≡ digest_at index

-- behind the magic, at this place, is a count of more
pub record HasTooMany (body : List ℕ) (place : ℕ) : Type 0 where
  pub count : ℕ
  pub behind : List ℕ
  pub stated : StatesCount body count behind
  pub many : digests_max < count
  pub at : place ≡ count_at

-- the fault is that of what is behind the magic
abbrev pub IsBodyFault : List ℕ → NotesFault → Type 0
IsBodyFault body (fault.Truncated place) =
    ((place ≡ identity_at) × (length body < 16)) ⊎ (((place ≡ count_at) × (length body ≡ 16)) ⊎ HasCutDigest body place)
IsBodyFault body (fault.TooMany place) = HasTooMany body place
IsBodyFault body fault.OutOfMemory = ⊥

-- the file has the magic, and that is the fault of the rest
pub record IsNotesFault (bytes : List ℕ) (f : NotesFault) : Type 0 where
  pub body : List ℕ
  pub magic : bytes ≡ magic_3 ++ body
  pub here : IsBodyFault body f

-- for private functions: the fault is that these bytes end in one of so many digests
abbrev pub IsCutAfter : ℕ → List ℕ → NotesFault → Type 0
IsCutAfter count bytes (fault.Truncated place) = (index : ℕ) × EndsInDigest count bytes index × (place ≡ digest_at index)
IsCutAfter count bytes (fault.TooMany place) = ⊥
IsCutAfter count bytes fault.OutOfMemory = ⊥
