-- The attributes of a variable (UEFI 2.10, 8.2), as they are stored.
use Rattle.std.specs.Prelude.{ℕ, List, [], ◌∷◌}

-- how many bytes they have
abbrev pub attributes_len : ℕ
attributes_len = 4

-- those of a new variable of the boot manager: it is kept without power, and is there for loaders and for the system that
-- they start
abbrev pub boot_attributes : List ℕ
boot_attributes = 7 ∷ 0 ∷ 0 ∷ 0 ∷ []
