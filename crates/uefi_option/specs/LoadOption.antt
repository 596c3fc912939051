-- Load options (UEFI 2.10, 3.1.3): attributes, a description, a list of device paths and optional data, and
-- their spelling, the EFI_LOAD_OPTION.
use Rattle.std.specs.Prelude.{◌≡◌, ◌≢◌, ℕ, ◌^◌, ◌<◌, ◌≤◌, List, [], ◌++◌, length}
use Rattle.std.specs.List.{AllByRecursion, flat_map}
use Rattle.std.specs.Int.{w16, w32, to_le_bytes}
use Rattle.uefi_path.specs.declared.node.Node.{Node}
use Rattle.uefi_path.specs.Units.{units_bytes}
use Rattle.uefi_path.specs.Row.{IsByte}
use Rattle.uefi_path.specs.Parts.{IsUnit}
use Rattle.uefi_path.specs.Path.{IsPath, path_bytes}

-- What a load option holds. A path is the list of its instances, and an instance the list of its nodes. The zero
-- unit that closes the description in the bytes is not held.
pub record OptionParts : Type 0 where
  pub attributes : ℕ
  pub description : List ℕ
  pub paths : List (List (List Node))
  pub optional : List ℕ

abbrev pub option_parts : ℕ → List ℕ → List (List (List Node)) → List ℕ → OptionParts
option_parts attributes description paths optional =
    record { attributes = attributes; description = description; paths = paths; optional = optional }

-- the most bytes that a list has whose length two bytes can state
abbrev pub list_max : ℕ
list_max = 65535

-- FilePathList: the spellings of the paths, one after the other
abbrev pub list_bytes : List (List (List Node)) → List ℕ
list_bytes paths = flat_map path_bytes paths

-- Description: its units, and one zero unit
abbrev pub description_bytes : List ℕ → List ℕ
description_bytes units = units_bytes units ++ to_le_bytes w16 0

-- what is before the description: Attributes, and FilePathListLength
abbrev pub header_bytes : ℕ → ℕ → List ℕ
header_bytes attributes len = to_le_bytes w32 attributes ++ to_le_bytes w16 len

-- The spelling of a load option: Attributes, FilePathListLength, Description, FilePathList, OptionalData. The length
-- that it states is that of its list, which two bytes can state if IsOption holds.
abbrev pub option_bytes : OptionParts → List ℕ
option_bytes o =
    header_bytes o.attributes (length (list_bytes o.paths))
    ++ (description_bytes o.description ++ (list_bytes o.paths ++ o.optional))

-- The numbers are in the ranges of their types, no unit is zero, there is a path, each path is one, and two bytes
-- can state the length of the list.
pub record IsOption (o : OptionParts) : Type 0 where
  pub attributes : o.attributes < 2 ^ 32
  pub description : AllByRecursion IsUnit o.description
  pub some : o.paths ≢ []
  pub paths : AllByRecursion IsPath o.paths
  pub len : length (list_bytes o.paths) ≤ list_max
  pub optional : AllByRecursion IsByte o.optional

-- the bytes, all of them, spell the load option
abbrev pub SpellsOption : List ℕ → OptionParts → Type 0
SpellsOption bytes o = IsOption o × (bytes ≡ option_bytes o)
