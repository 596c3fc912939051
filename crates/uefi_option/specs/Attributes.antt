-- The attributes of a load option (UEFI 2.10, 3.1.3).
use Rattle.std.specs.Prelude.{◌≡◌, ◌≢◌, ℕ, bit_and}

-- the bit LOAD_OPTION_ACTIVE
abbrev pub active_bit : ℕ
active_bit = 0x00000001

-- the bits LOAD_OPTION_CATEGORY
abbrev pub category_bits : ℕ
category_bits = 0x00001F00

-- the category LOAD_OPTION_CATEGORY_BOOT
abbrev pub category_boot : ℕ
category_boot = 0x00000000

-- LOAD_OPTION_ACTIVE is set
abbrev pub IsActive : ℕ → Type 0
IsActive attributes = bit_and attributes active_bit ≢ 0

-- the bits of LOAD_OPTION_CATEGORY, where they are
abbrev pub category_of : ℕ → ℕ
category_of attributes = bit_and attributes category_bits

-- an option that the boot manager tries by itself: active, and of the category BOOT
abbrev pub IsNormal : ℕ → Type 0
IsNormal attributes = IsActive attributes × (category_of attributes ≡ category_boot)
