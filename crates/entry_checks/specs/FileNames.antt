-- Names of files in a FAT file system (UEFI 2.10, 13.3).
use Rattle.std.specs.Prelude.{◌≡◌, ℕ, List, map}
use Rattle.std.specs.Char.{to_ascii_lowercase}

-- the same but for the case of letters of ASCII
abbrev pub IsSameName : List ℕ → List ℕ → Type 0
IsSameName name other = map to_ascii_lowercase name ≡ map to_ascii_lowercase other
