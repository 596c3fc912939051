-- Lines and columns.
use Rattle.std.specs.Prelude.{◌≡◌, ℕ, ◌+◌, ◌≤◌, ◌==◌, bit_and, if◌then◌else◌, List, [], ◌∷◌, length, take}
use Rattle.profile_files.specs.declared.fault.FileError.{FileError}
use Rattle.profile_files.specs.declared.fault.FileError.TheVariants as error

-- the line and the column after a byte, if these are before it: a line ends with a line feed, and no byte within a
-- character counts
abbrev pub after_byte : ℕ → ℕ × ℕ → ℕ × ℕ
after_byte byte at = if byte == 10 then (at.0 + 1, 1) else if bit_and byte 0xc0 == 0x80 then at else (at.0, at.1 + 1)

-- the same after bytes
abbrev pub after_bytes : List ℕ → ℕ × ℕ → ℕ × ℕ
after_bytes [] at = at
after_bytes (byte ∷ rest) at = after_bytes rest (after_byte byte at)

-- the line and the column, both from 1, of the byte at this place, or of the end of a shorter text
abbrev pub position_at : List ℕ → ℕ → ℕ × ℕ
position_at text place = after_bytes (take place text) (1, 1)

-- it is told where the fault is, within the text
abbrev pub IsPlaced : List ℕ → FileError → Type 0
IsPlaced text (error.At position fault) =
    (place : ℕ) × (place ≤ length text) × ((position.line, position.column) ≡ position_at text place)
IsPlaced text error.OutOfMemory = Unit {0}
