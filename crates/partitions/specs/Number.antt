-- Numbers as digits.
use Rattle.std.specs.Prelude.{ℕ, ◌-◌, ◌==◌, Bool, ◌&&◌, nat_lt, nat_le, List, length, take, slice_index, Option, Some, None, if◌then◌else◌}
use Rattle.std.specs.List.{list_all}
use Rattle.std.specs.Char.{digit_value}
use Rattle.std.specs.Str.Parse.{digits_value}
use Rattle.partitions.specs.Cut.{line_feed}

-- one or more digits of the base, of either case
abbrev pub is_numeral : ℕ → List ℕ → Bool
is_numeral base digits = nat_lt 0 (length digits) && list_all (λ digit. nat_lt (digit_value digit) base) digits

-- the number that the digits write, if they are a numeral and it is at most this large
unfoldable pub number_of : ℕ → ℕ → List ℕ → Option ℕ
number_of base most digits =
    if is_numeral base digits && nat_le (digits_value base digits) most then Some (digits_value base digits) else None

-- a text without a line feed at its end
abbrev pub without_line_feed : List ℕ → List ℕ
without_line_feed text =
    if nat_lt 0 (length text) && (slice_index text (length text - 1) == line_feed) then take (length text - 1) text else text

-- the number that a file of /sys has: of 64 bits, in decimal, perhaps with a line feed
abbrev pub file_number_of : List ℕ → Option ℕ
file_number_of text = number_of 10 0xFFFFFFFFFFFFFFFF (without_line_feed text)
