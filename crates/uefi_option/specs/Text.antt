-- A description as one line of text, whatever its units are.
use Rattle.std.specs.Prelude.{ℕ, ◌/◌, ◌%◌, Bool, false, nat_le, ◌==◌, ◌&&◌, if◌then◌else◌, List, [], ◌∷◌}
use Rattle.std.specs.List.{flat_map}
use Rattle.std.specs.Char.{digit_char}

-- a unit that prints as itself: a printing ASCII character, 0x20 to 0x7E, other than the backslash, 0x5C
abbrev pub is_plain : ℕ → Bool
is_plain unit = if unit == 0x5C then false else (nat_le 0x20 unit && nat_le unit 0x7E)

-- the four hexadecimal digits of a unit, in lower case
abbrev pub unit_digits : ℕ → List ℕ
unit_digits unit =
    digit_char (unit / 0x1000) ∷ digit_char (unit / 0x100 % 0x10) ∷ digit_char (unit / 0x10 % 0x10)
    ∷ digit_char (unit % 0x10) ∷ []

-- the text of one unit: itself, or a backslash and its digits
abbrev pub unit_text : ℕ → List ℕ
unit_text unit = if is_plain unit then unit ∷ [] else 0x5C ∷ unit_digits unit

-- the text of a description: that of each unit
abbrev pub units_text : List ℕ → List ℕ
units_text units = flat_map unit_text units
