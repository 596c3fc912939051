-- The text of a number: how it is printed, and each text that is read as it.
use Rattle.std.specs.Prelude.{◌≡◌, ◌≤◌, ◌⊎◌, ℕ, false, List, ◌++◌, length, codes}
use Rattle.std.specs.Fmt.{digits}
use Rattle.std.specs.Str.Parse.{IsNumeral, digits_value}

-- one to this many digits of the base, of either case, that write n
pub record AreDigits (base most : ℕ) (text : List ℕ) (n : ℕ) : Type 0 where
  pub numeral : IsNumeral base text
  pub len : length text ≤ most
  pub value : n ≡ digits_value base text

-- `0x` and one to sixteen hexadecimal digits
abbrev pub IsHexadecimal : List ℕ → ℕ → Type 0
IsHexadecimal text n = (tail : List ℕ) × (text ≡ codes "0x" ++ tail) × AreDigits 16 16 tail n

-- the text is read as n: in hexadecimal, or as one to twenty decimal digits
abbrev pub IsNumber : List ℕ → ℕ → Type 0
IsNumber text n = IsHexadecimal text n ⊎ AreDigits 10 20 text n

-- how n is printed: `0x` and lower-case digits without leading zeros
abbrev pub number_text : ℕ → List ℕ
number_text n = codes "0x" ++ digits 16 false n
