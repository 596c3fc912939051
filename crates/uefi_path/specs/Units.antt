-- Numbers of two bytes: the units of names and of descriptions, and the numbers of entries.
use Rattle.std.specs.Prelude.{ℕ, ◌^◌, ◌<◌, List, [], ◌∷◌}
use Rattle.std.specs.List.{flat_map}
use Rattle.std.specs.Int.{w16, from_le_bytes, to_le_bytes}

-- two bytes can state the number
abbrev pub IsTwoByte : ℕ → Type 0
IsTwoByte n = n < 2 ^ 16

-- the bytes of numbers, two for each, little-endian
abbrev pub units_bytes : List ℕ → List ℕ
units_bytes units = flat_map (to_le_bytes w16) units

-- each two bytes as a number; a byte that is left over isn't one
abbrev pub units_of : List ℕ → List ℕ
units_of (low ∷ high ∷ rest) = from_le_bytes w16 (low ∷ high ∷ []) ∷ units_of rest
units_of _ = []
