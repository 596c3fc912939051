-- The name of a file in an EFI System Partition (UEFI 2.10, 10.3.5.4 and 13.3), of its path in the file system.
use Rattle.std.specs.Prelude.{◌≡◌, ℕ, ◌+◌, ◌<◌, ◌==◌, Bool, ◌&&◌, nat_lt, not, List, [], ◌∷◌, length, map, encode_utf8, Option, Some, None}
use Rattle.std.specs.Prelude.{if◌then◌else◌}
use Rattle.std.specs.Option.{option_map}
use Rattle.std.specs.Str.{chars, IsUtf8}
use Rattle.std.specs.Str.Lossy.{utf8_valid_len}
use Rattle.uefi_path.specs.Standard.{path_name_max}
use Rattle.partitions.specs.declared.fault.LoaderNameFault.{LoaderNameFault}
use Rattle.partitions.specs.declared.fault.LoaderNameFault.TheVariants as fault

-- a character that such a name can have: of the basic multilingual plane, neither zero nor a backslash
abbrev pub is_name_character : ℕ → Bool
is_name_character character = not (character == 0) && (not (character == 92) && nat_lt character 0x10000)

-- its unit: a backslash for a slash
abbrev pub unit_of : ℕ → ℕ
unit_of character = if character == 47 then 92 else character

-- where the first character begins that a name can't have
abbrev pub bad_place : List ℕ → Option ℕ
bad_place [] = None
bad_place (character ∷ rest) =
    if is_name_character character then option_map (λ at. length (encode_utf8 character) + at) (bad_place rest) else Some 0

-- the units of a name
abbrev pub units_of : List ℕ → List ℕ
units_of name = map unit_of (chars name)

-- what is wrong with a name
abbrev pub IsNameFault : List ℕ → LoaderNameFault → Type 0
IsNameFault name (fault.NotUtf8 at) = (¬ IsUtf8 name) × (at ≡ utf8_valid_len name)
IsNameFault name (fault.BadCharacter at) = IsUtf8 name × (bad_place (chars name) ≡ Some at)
IsNameFault name fault.TooLong = IsUtf8 name × (bad_place (chars name) ≡ None) × (path_name_max < length (units_of name))
IsNameFault name fault.OutOfMemory = Unit {0}
