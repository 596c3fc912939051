-- The texts of bytes: hexadecimal digits in pairs, and decimal numbers or pairs of digits joined by a mark.
use Rattle.std.specs.Prelude.{◌≡◌, ◌<◌, ◌≤◌, ℕ, ◌+◌, ◌*◌, ◌/◌, ◌%◌, Bool, true, false, List, [], ◌∷◌, map, flat_map}
use Rattle.std.specs.Prelude.{decimal}
use Rattle.std.specs.Char.{digit_value}
use Rattle.std.specs.Fmt.{digit_glyph}
use Rattle.std.specs.List.{join_with_byte}
use Rattle.uefi_text.specs.Number.{AreDigits}

-- as many on either side, and the relation holds of each two at one place
abbrev pub Each : {X Y : Type 0} → (X → Y → Type 0) → List X → List Y → Type 0
Each R [] [] = Unit {0}
Each R [] (_ ∷ _) = ⊥
Each R (_ ∷ _) [] = ⊥
Each R (x ∷ xs) (y ∷ ys) = R x y × Each R xs ys

-- two hexadecimal digits of either case, the high half of the byte first
pub record IsPair (high low byte : ℕ) : Type 0 where
  pub high_digit : digit_value high < 16
  pub low_digit : digit_value low < 16
  pub value : byte ≡ digit_value high * 16 + digit_value low

-- the text is read as these bytes: a pair of digits for each
abbrev pub IsHexData : List ℕ → List ℕ → Type 0
IsHexData [] [] = Unit {0}
IsHexData [] (_ ∷ _) = ⊥
IsHexData (_ ∷ []) _ = ⊥
IsHexData (_ ∷ _ ∷ _) [] = ⊥
IsHexData (high ∷ low ∷ text) (byte ∷ bytes) = IsPair high low byte × IsHexData text bytes

-- the two digits of a byte
abbrev pub pair_text : Bool → ℕ → List ℕ
pair_text upper byte = digit_glyph upper (byte / 16) ∷ digit_glyph upper (byte % 16) ∷ []

-- how bytes are printed, in lower case and in upper case
abbrev pub hex_text : List ℕ → List ℕ
hex_text bytes = flat_map (pair_text false) bytes

abbrev pub upper_hex_text : List ℕ → List ℕ
upper_hex_text bytes = flat_map (pair_text true) bytes

-- the codes of the marks that join numbers and pairs
abbrev pub dot : ℕ
dot = 0x2E

abbrev pub hyphen : ℕ
hyphen = 0x2D

-- one to three decimal digits, of a number up to 255
abbrev pub IsOctet : List ℕ → ℕ → Type 0
IsOctet text n = AreDigits 10 3 text n × (n ≤ 255)

-- the text is read as an address of these bytes: a decimal number for each, joined by dots
abbrev pub IsAddress : List ℕ → List ℕ → Type 0
IsAddress text bytes = (parts : List (List ℕ)) × (text ≡ join_with_byte dot parts) × Each IsOctet parts bytes

abbrev pub address_text : List ℕ → List ℕ
address_text bytes = join_with_byte dot (map decimal bytes)

-- two digits of either case
abbrev pub IsByteText : List ℕ → ℕ → Type 0
IsByteText pair byte = IsHexData pair (byte ∷ [])

-- the text is read as an identifier of these bytes: a pair of digits for each, joined by hyphens
abbrev pub IsEui : List ℕ → List ℕ → Type 0
IsEui text bytes = (pairs : List (List ℕ)) × (text ≡ join_with_byte hyphen pairs) × Each IsByteText pairs bytes

abbrev pub eui_text : List ℕ → List ℕ
eui_text bytes = join_with_byte hyphen (map (pair_text false) bytes)
