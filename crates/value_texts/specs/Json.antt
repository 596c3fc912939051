-- Texts in JSON (RFC 8259, 7).
use Rattle.std.specs.Prelude.{ℕ, Bool, ◌==◌, ◌&&◌, nat_le, nat_lt, if◌then◌else◌, Option, Some, None, List, [], ◌∷◌, ◌++◌, flat_map, ◌≡◌, codes}
use Rattle.std.specs.Borrow.{Bor}
use Rattle.std.specs.Char.{encode_utf8}
use Rattle.std.specs.Str.{chars}
use Rattle.std.specs.Char.Utf16.{is_high_surrogate, is_low_surrogate, surrogate_pair_char}
use Rattle.uefi_option.specs.Text.{unit_digits}
use Rattle.uefi_names.specs.Shown.{is_hidden}
use Rattle.value_texts.specs.declared.json.Leaf.{Leaf}
use Rattle.value_texts.specs.declared.json.Leaf.TheVariants as leaves

-- what comes after the backslash for a character that has an escape of two characters
abbrev pub escape_letter : ℕ → Option ℕ
escape_letter c =
    if c == 0x22 then Some 0x22
    else (if c == 0x5C then Some 0x5C
    else (if c == 0x08 then Some 0x62
    else (if c == 0x09 then Some 0x74
    else (if c == 0x0A then Some 0x6E
    else (if c == 0x0C then Some 0x66
    else (if c == 0x0D then Some 0x72
    else None))))))

-- a unit of UTF-16 as a backslash, `u` and four digits
abbrev pub unit_escape : ℕ → List ℕ
unit_escape unit = 0x5C ∷ 0x75 ∷ unit_digits unit

abbrev pub by_letter : Option ℕ → ℕ → List ℕ
by_letter (Some letter) c = 0x5C ∷ letter ∷ []
by_letter None c = if is_hidden c then unit_escape c else encode_utf8 c

-- a character in a text: an escape if it would end the text, isn't allowed in it, or is one on which a terminal may act;
-- or else itself, in UTF-8
abbrev pub character_json : ℕ → List ℕ
character_json c = by_letter (escape_letter c) c

-- a text of these characters
abbrev pub text_json : List ℕ → List ℕ
text_json characters = 0x22 ∷ (flat_map character_json characters ++ 0x22 ∷ [])

-- ---- units of UTF-16

-- half of a pair
abbrev pub is_half : ℕ → Bool
is_half unit = nat_le 0xD800 unit && nat_lt unit 0xE000

-- a unit that is in no pair: half of one is an escape
abbrev pub lone_json : ℕ → List ℕ
lone_json unit = if is_half unit then unit_escape unit else character_json unit

-- units of UTF-16 in a text
unfoldable pub units_inside : List ℕ → List ℕ
units_inside [] = []
units_inside (unit ∷ []) = lone_json unit
units_inside (high ∷ low ∷ units) =
    if is_high_surrogate high && is_low_surrogate low then character_json (surrogate_pair_char high low) ++ units_inside units
    else lone_json high ++ units_inside (low ∷ units)

-- a text of these units
abbrev pub units_json : List ℕ → List ℕ
units_json units = 0x22 ∷ (units_inside units ++ 0x22 ∷ [])

-- ---- what a member is

abbrev pub text_or_null : Option (Bor (List ℕ)) → List ℕ
text_or_null (Some text) = text_json (chars text.now)
text_or_null None = codes "null"

-- of a member that is a text of somebody else's the second bytes are the first with its text after them
abbrev pub WritesText : Leaf → List ℕ → List ℕ → Type 0
WritesText (leaves.Word text) old new = new ≡ old ++ text_or_null text
WritesText (leaves.Text text) old new = new ≡ old ++ text_or_null text
WritesText (leaves.Units units) old new = new ≡ old ++ units_json units.now
WritesText _ old new = Unit
