-- Notes: an identity, and the digests of the frames that were applied last.
use Rattle.std.specs.Prelude.{◌≡◌, ℕ, ◌-◌, ◌≤◌, nat_lt, List, ◌++◌, length, drop, filter}
use Rattle.std.specs.List.{AllByRecursion}
use Rattle.boot_notes.specs.declared.digest.FrameDigest.{FrameDigest}
use Rattle.boot_notes.specs.Digest.{IsFrameDigest}

pub record NotesParts : Type 0 where
  pub identity : List ℕ
  pub digests : List FrameDigest

abbrev pub notes_of : List ℕ → List FrameDigest → NotesParts
notes_of identity digests = record { identity = identity; digests = digests }

-- of how many of the last frames digests are kept, and how many digests there are at most
abbrev pub kept_max : ℕ
kept_max = 64

abbrev pub digests_max : ℕ
digests_max = 128

pub record IsNotes (notes : NotesParts) : Type 0 where
  pub identity : length notes.identity ≡ 16
  pub count : length notes.digests ≤ digests_max
  pub digests : AllByRecursion IsFrameDigest notes.digests

-- the last ones of these
abbrev pub last_of : List FrameDigest → List FrameDigest
last_of digests = drop (length digests - kept_max) digests

-- those of requests below this number
abbrev pub below : ℕ → List FrameDigest → List FrameDigest
below number digests = filter (λ (kept : FrameDigest). nat_lt kept.number number) digests

-- the digests of the frames that were applied last before a run that begins with this next number
abbrev pub kept_before : NotesParts → ℕ → List FrameDigest
kept_before notes next_number = last_of (below next_number notes.digests)

-- the notes after a run that began with this next number, and applied frames of these digests
abbrev pub after_run : NotesParts → ℕ → List FrameDigest → NotesParts
after_run notes next_number applied = record notes { digests = kept_before notes next_number ++ last_of applied }

-- if this is the next number: the last digests below it are the last of these
abbrev pub HaveLast : NotesParts → ℕ → List FrameDigest → Type 0
HaveLast notes next_number digests = kept_before notes next_number ≡ last_of digests
