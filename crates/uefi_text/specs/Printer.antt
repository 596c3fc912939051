-- For private parts of the printer.
use Rattle.std.specs.Prelude.{ℕ, List, [], ◌∷◌, ◌++◌, codes}
use Rattle.uefi_text.specs.Bytes.{hex_text}

-- what comes after other arguments: nothing, or a comma and the digits of the data
abbrev pub behind_comma : List ℕ → List ℕ
behind_comma [] = []
behind_comma (byte ∷ bytes) = codes "," ++ hex_text (byte ∷ bytes)
