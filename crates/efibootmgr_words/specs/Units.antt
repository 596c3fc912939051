-- The characters of units of UTF-16, as they are listed.
use Rattle.std.specs.Prelude.{ℕ, Bool, false, ◌==◌, List, [], ◌∷◌, ◌++◌, Option, Some, None, is_some, if◌then◌else◌}
use Rattle.std.specs.Char.{encode_utf8}
use Rattle.std.specs.Char.Utf16.{lone_unit_char}
use Rattle.std.specs.Int.{w16, to_be_bytes}
use Rattle.uefi_text.specs.Bytes.{hex_text}
use Rattle.uefi_names.specs.Shown.{is_hidden, pair_char}
use Rattle.efibootmgr_words.specs.declared.units.FirstUnits.{FirstUnits}
use Rattle.efibootmgr_words.specs.declared.units.FirstUnits.TheVariants.{Shown, Escaped}

-- a unit as a backslash, the letter u and its four digits
abbrev pub escape_text : ℕ → List ℕ
escape_text unit = 0x5C ∷ 0x75 ∷ hex_text (to_be_bytes w16 unit)

-- a unit that is in no pair: its character, or escaped if it has none or one on which a terminal may act
abbrev pub lone_char_text : ℕ → Option ℕ → List ℕ
lone_char_text unit None = escape_text unit
lone_char_text unit (Some c) = if is_hidden c then escape_text unit else encode_utf8 c

abbrev pub lone_text : ℕ → List ℕ
lone_text unit = lone_char_text unit (lone_unit_char unit)

-- the unit and the first of these are a pair
abbrev pub has_pair : ℕ → List ℕ → Bool
has_pair high [] = false
has_pair high (low ∷ units) = is_some (pair_char high low)

-- the text of a pair and what comes after it, or else this other text
abbrev pub pair_text : Option ℕ → List ℕ → List ℕ → List ℕ
pair_text None after other = other
pair_text (Some c) after other = encode_utf8 c ++ after

-- units up to the first zero one
unfoldable pub units_text : List ℕ → List ℕ
units_text [] = []
units_text (unit ∷ []) = if unit == 0 then [] else lone_text unit
units_text (high ∷ low ∷ units) =
    if high == 0 then []
    else pair_text (pair_char high low) (units_text units) (lone_text high ++ units_text (low ∷ units))

-- what the first units are listed as
abbrev pub first_text : FirstUnits → List ℕ
first_text (Shown c) = encode_utf8 c
first_text (Escaped unit) = escape_text unit
