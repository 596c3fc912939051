-- The bit LOAD_OPTION_ACTIVE of an entry (UEFI 2.10, 3.1.3): bit 0 of its Attributes, which are its first four bytes,
-- little-endian.
use Rattle.std.specs.Prelude.{ℕ, ◌+◌, ◌*◌, ◌/◌, Bool, if◌then◌else◌, List, [], ◌∷◌}

-- the number with its bit 0 set or cleared
abbrev pub with_bit_0 : Bool → ℕ → ℕ
with_bit_0 set number = number / 2 * 2 + (if set then 1 else 0)

-- the entry with the bit set or cleared, and all its other bits as they were
abbrev pub switched : Bool → List ℕ → List ℕ
switched active [] = []
switched active (byte ∷ bytes) = with_bit_0 active byte ∷ bytes
