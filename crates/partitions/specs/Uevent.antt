-- What /sys tells of a device in its file `uevent`: on each line KEY=VALUE.
use Rattle.std.specs.Prelude.{ℕ, ◌==◌, List, [], ◌∷◌, length, take, drop, codes, Option, Some, None, option_and_then, if◌then◌else◌}
use Rattle.std.specs.Cmp.Lexicographic.{pointwise}
use Rattle.partitions.specs.Cut.{lines_of}

-- what a line has behind a text in front, if it begins with it
abbrev pub behind_text : List ℕ → List ℕ → Option (List ℕ)
behind_text front line = if pointwise ◌==◌ (take (length front) line) front then Some (drop (length front) line) else None

-- what a line has behind a key and an equals sign, if it begins with them
abbrev pub value_of_line : List ℕ → List ℕ → Option (List ℕ)
value_of_line key line = option_and_then (behind_text (codes "=")) (behind_text key line)

-- the first value, or else the other
abbrev pub or_else : Option (List ℕ) → Option (List ℕ) → Option (List ℕ)
or_else (Some value) other = Some value
or_else None other = other

-- the value of the first line that begins with the key and an equals sign
abbrev pub value_in : List ℕ → List (List ℕ) → Option (List ℕ)
value_in key [] = None
value_in key (line ∷ lines) = or_else (value_of_line key line) (value_in key lines)

abbrev pub value_of : List ℕ → List ℕ → Option (List ℕ)
value_of text key = value_in key (lines_of text)
