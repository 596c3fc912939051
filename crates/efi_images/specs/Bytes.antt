-- Numbers in the bytes of a file, little-endian, by their offsets from its first byte.
use Rattle.std.specs.Prelude.{ℕ, List, take, drop}
use Rattle.std.specs.Int.{w16, w32, w64, from_le_bytes}

-- as many bytes from this offset on
abbrev pub bytes_at : List ℕ → ℕ → ℕ → List ℕ
bytes_at file place len = take len (drop place file)

unfoldable pub u16_at : List ℕ → ℕ → ℕ
u16_at file place = from_le_bytes w16 (bytes_at file place 2)

unfoldable pub u32_at : List ℕ → ℕ → ℕ
u32_at file place = from_le_bytes w32 (bytes_at file place 4)

unfoldable pub u64_at : List ℕ → ℕ → ℕ
u64_at file place = from_le_bytes w64 (bytes_at file place 8)
