-- The names of the files of records, and their numbers.
use Rattle.std.specs.Prelude.{◌==◌, ◌&&◌, ℕ, Bool, if◌then◌else◌, Option, Some, None, List, length}
use Rattle.std.specs.Char.{is_ascii_digit}
use Rattle.std.specs.List.{list_all}
use Rattle.std.specs.Str.Parse.{digits_value}

-- ten digits
abbrev pub is_name : List ℕ → Bool
is_name name = (length name == 10) && list_all is_ascii_digit name

-- the number that the name of a file writes: none if it isn't ten digits
abbrev pub number_named : List ℕ → Option ℕ
number_named name = if is_name name then Some (digits_value 10 name) else None
