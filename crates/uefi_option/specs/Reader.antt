-- For private functions of the reader: what is at the start of some bytes.
use Rattle.std.specs.Prelude.{◌≡◌, ◌≢◌, ℕ, ◌+◌, ◌^◌, ◌<◌, ◌≤◌, List, [], ◌++◌, length}
use Rattle.std.specs.List.{AllByRecursion}
use Rattle.std.specs.Int.{w16, to_le_bytes}
use Rattle.uefi_path.specs.declared.node.Node.{Node}
use Rattle.uefi_path.specs.declared.fault.PathFault.{PathFault}
use Rattle.uefi_path.specs.Units.{units_bytes, units_of}
use Rattle.uefi_path.specs.Parts.{IsUnit}
use Rattle.uefi_path.specs.Path.{IsPath}
use Rattle.uefi_path.specs.Fault.{IsFirstFault as IsFirstPathFault}
use Rattle.uefi_option.specs.declared.fault.OptionFault.{OptionFault}
use Rattle.uefi_option.specs.declared.fault.OptionFault.TheVariants as fault
use Rattle.uefi_option.specs.LoadOption.{list_max, header_bytes, list_bytes}

-- the bytes are those of units, none of which is zero
pub record AreUnits (bytes : List ℕ) : Type 0 where
  pub nonzero : AllByRecursion IsUnit (units_of bytes)
  pub is : bytes ≡ units_bytes (units_of bytes)

-- the bytes are those of units, a zero unit, and a rest
pub record SplitsUnits (bytes description rest : List ℕ) : Type 0 where
  pub units : AreUnits description
  pub parts : bytes ≡ (description ++ to_le_bytes w16 0) ++ rest

-- there is no zero unit in the bytes
pub record HasNoZero (bytes : List ℕ) : Type 0 where
  pub units : List ℕ
  pub left : List ℕ
  pub nonzero : AllByRecursion IsUnit units
  pub half : length left < 2
  pub parts : bytes ≡ units_bytes units ++ left

-- the bytes are those of a load option, as far as its parts can be told without reading a path
pub record SplitsOption (bytes : List ℕ) (attributes : ℕ) (description list optional : List ℕ) : Type 0 where
  pub four_bytes : attributes < 2 ^ 32
  pub units : AreUnits description
  pub some : 0 < length list
  pub len : length list ≤ list_max
  pub parts : bytes
      ≡ header_bytes attributes (length list) ++ ((description ++ to_le_bytes w16 0) ++ (list ++ optional))

-- the list is whole paths and a rest with this first fault; the list begins at start
pub record HasListFault (list : List ℕ) (start place : ℕ) (path_fault : PathFault) : Type 0 where
  pub paths : List (List (List Node))
  pub rest : List ℕ
  pub whole : AllByRecursion IsPath paths
  pub some : rest ≢ []
  pub parts : list ≡ list_bytes paths ++ rest
  pub at : place ≡ start + length (list_bytes paths)
  pub first : IsFirstPathFault rest path_fault

-- the list is spellings of paths, one after the other
pub record ArePaths (list : List ℕ) : Type 0 where
  pub paths : List (List (List Node))
  pub whole : AllByRecursion IsPath paths
  pub parts : list ≡ list_bytes paths

-- the fault is one of a path in the list, which begins at start
abbrev pub IsListFault : List ℕ → ℕ → OptionFault → Type 0
IsListFault list start (fault.Path place path_fault) = HasListFault list start place path_fault
IsListFault list start _ = ⊥
