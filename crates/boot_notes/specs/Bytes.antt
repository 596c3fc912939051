-- Notes at the start of a journal's file, as bytes. Numbers are little-endian.
use Rattle.std.specs.Prelude.{◌≡◌, ◌≢◌, ℕ, List, [], ◌∷◌, ◌++◌, length}
use Rattle.std.specs.Int.{w32, to_le_bytes}
use Rattle.std.specs.List.{flat_map}
use Rattle.boot_notes.specs.declared.digest.FrameDigest.{FrameDigest}
use Rattle.boot_notes.specs.Notes.{NotesParts, IsNotes}

-- the four bytes at the start: BKJ3
abbrev pub magic_3 : List ℕ
magic_3 = 0x42 ∷ 0x4B ∷ 0x4A ∷ 0x33 ∷ []

-- a digest: the number of its request in four bytes, and its eight bytes
abbrev pub digest_bytes : FrameDigest → List ℕ
digest_bytes kept = to_le_bytes w32 kept.number ++ kept.digest

-- what is behind the magic: the identity, how many digests there are in one byte, and these
abbrev pub body_bytes : NotesParts → List ℕ
body_bytes notes = notes.identity ++ (length notes.digests ∷ flat_map digest_bytes notes.digests)

-- the file is these notes, and behind them this file
pub record SpellsNotes (bytes : List ℕ) (notes : NotesParts) (file : List ℕ) : Type 0 where
  pub valid : IsNotes notes
  pub is : bytes ≡ magic_3 ++ (body_bytes notes ++ file)

-- the file doesn't begin as one with notes does
abbrev pub HasNoNotes : List ℕ → Type 0
HasNoNotes bytes = (rest : List ℕ) → bytes ≢ magic_3 ++ rest
