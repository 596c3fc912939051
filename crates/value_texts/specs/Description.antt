-- Descriptions as texts: which units of UTF-16 a text stands for (UEFI 2.10, 3.1.3). A text is the codes of its characters.
use Rattle.std.specs.Prelude.{◌≡◌, ◌≢◌, ◌⊎◌, ◌-◌, ℕ, zero, suc, List, [], ◌∷◌, ◌++◌, length}
use Rattle.std.specs.Char.Escape.{encode_utf16}
use Rattle.std.specs.Str.Parse.{AllDigits, digits_value}
use Rattle.value_texts.specs.declared.description.DescriptionFault.{DescriptionFault}
use Rattle.value_texts.specs.declared.description.DescriptionFault.TheVariants as fault

-- four hexadecimal digits of either case are at the front, and write this number
pub record BeginsWithUnit (text : List ℕ) (unit : ℕ) (behind : List ℕ) : Type 0 where
  pub digits : List ℕ
  pub four : length digits ≡ 4
  pub hexadecimal : AllDigits 16 digits
  pub writes : unit ≡ digits_value 16 digits
  pub parts : text ≡ digits ++ behind

-- there are none
abbrev pub HasNoUnit : List ℕ → Type 0
HasNoUnit text = (unit : ℕ) (behind : List ℕ) → ¬ BeginsWithUnit text unit behind

-- a `u` is at the front, and this comes after it
abbrev pub BeginsWithU : List ℕ → List ℕ → Type 0
BeginsWithU text behind = text ≡ 0x75 ∷ behind

-- a `u` and four digits are at the front
pub record BeginsWithEscape (text : List ℕ) (unit : ℕ) (behind : List ℕ) : Type 0 where
  pub digits : List ℕ
  pub letter : BeginsWithU text digits
  pub writes : BeginsWithUnit digits unit behind

-- neither a `u` is at the front, nor four digits as lines of `show` have them
pub record IsNoEscape (text : List ℕ) : Type 0 where
  pub letter : (behind : List ℕ) → ¬ BeginsWithU text behind
  pub digits : HasNoUnit text

-- Why a backslash before this text is neither itself nor an escape. The backslash is at this place.
abbrev pub IsEscapeFault : List ℕ → ℕ → DescriptionFault → Type 0
IsEscapeFault text place (fault.NoDigits at) = (at ≡ place) × ((behind : List ℕ) × BeginsWithU text behind × HasNoUnit behind)
IsEscapeFault text place (fault.OfLines at) =
    (at ≡ place) × ((behind : List ℕ) → ¬ BeginsWithU text behind) × ((unit : ℕ) × (behind : List ℕ) × BeginsWithUnit text unit behind)
IsEscapeFault text place fault.OutOfMemory = ⊥

-- The front of the text stands for these units: another character than a backslash for its own, a backslash with an escape
-- for the one that it writes, and any other backslash for itself.
abbrev pub IsFront : List ℕ → List ℕ → List ℕ → Type 0
IsFront text units behind =
    (((character : ℕ) × (character ≢ 0x5C) × (text ≡ character ∷ behind) × (units ≡ encode_utf16 character))
    ⊎ ((unit : ℕ) × (escape : List ℕ) × (text ≡ 0x5C ∷ escape) × BeginsWithEscape escape unit behind × (units ≡ unit ∷ [])))
    ⊎ ((text ≡ 0x5C ∷ behind) × IsNoEscape behind × (units ≡ 0x5C ∷ []))

-- so many such fronts, one after the other, stand for these units, and this is left
abbrev pub AreFronts : ℕ → List ℕ → List ℕ → List ℕ → Type 0
AreFronts zero text units left = (text ≡ left) × (units ≡ [])
AreFronts (suc n) text units left =
    (here : List ℕ) × (behind : List ℕ) × (after : List ℕ) × IsFront text here behind × (units ≡ here ++ after) × AreFronts n behind after left

-- the text, all of it, stands for these units
abbrev pub IsDescription : List ℕ → List ℕ → Type 0
IsDescription text units = (n : ℕ) × AreFronts n text units []

-- after some fronts there is a backslash that is neither itself nor an escape
pub record IsDescriptionFault (text : List ℕ) (f : DescriptionFault) : Type 0 where
  pub n : ℕ
  pub units : List ℕ
  pub behind : List ℕ
  pub before : AreFronts n text units (0x5C ∷ behind)
  pub here : IsEscapeFault behind (length text - length (0x5C ∷ behind)) f
