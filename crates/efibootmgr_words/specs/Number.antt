-- Numbers as words.
use Rattle.std.specs.Prelude.{ℕ, ◌==◌, Bool, ◌&&◌, ◌||◌, min, nat_lt, List, length, drop, slice_index, Option, Some, None, if◌then◌else◌}
use Rattle.std.specs.List.{list_all}
use Rattle.std.specs.Char.{digit_value}
use Rattle.std.specs.Str.Parse.{digits_value, without_leading_plus}

-- one or more digits of the base, of either case
abbrev pub is_numeral : ℕ → List ℕ → Bool
is_numeral base digits = nat_lt 0 (length digits) && list_all (λ digit. nat_lt (digit_value digit) base) digits

-- the number that the digits write, if they are a numeral; of more than 32 bits only that it is as large as these hold
unfoldable pub number_of : ℕ → List ℕ → Option ℕ
number_of base digits = if is_numeral base digits then Some (min (digits_value base digits) 0xFFFFFFFF) else None

-- `0x` or `0X` at the front
abbrev pub begins_hexadecimal : List ℕ → Bool
begins_hexadecimal text = (slice_index text 0 == 48) && ((slice_index text 1 == 120) || (slice_index text 1 == 88))

abbrev pub without_prefix : List ℕ → List ℕ
without_prefix text = if begins_hexadecimal text then drop 2 text else text

abbrev pub hexadecimal_of : List ℕ → Option ℕ
hexadecimal_of text = number_of 16 (without_prefix text)

abbrev pub decimal_of : List ℕ → Option ℕ
decimal_of text = number_of 10 (without_leading_plus text)
