-- The first fault of the bytes of a load option (UEFI 2.10, 3.1.3).
use Rattle.std.specs.Prelude.{◌≡◌, ◌≢◌, ℕ, ◌^◌, ◌<◌, List, [], ◌++◌, length}
use Rattle.std.specs.List.{AllByRecursion}
use Rattle.uefi_path.specs.declared.node.Node.{Node}
use Rattle.uefi_path.specs.declared.fault.PathFault.{PathFault}
use Rattle.uefi_path.specs.Units.{units_bytes}
use Rattle.uefi_path.specs.Parts.{IsUnit}
use Rattle.uefi_path.specs.Path.{IsPath}
use Rattle.uefi_path.specs.Fault.{IsFirstFault as IsFirstPathFault}
use Rattle.uefi_option.specs.declared.fault.OptionFault.{OptionFault}
use Rattle.uefi_option.specs.declared.fault.OptionFault.TheVariants as fault
use Rattle.uefi_option.specs.LoadOption.{header_bytes, description_bytes, list_bytes}

-- Attributes and FilePathListLength, and after them units that no zero unit closes: the input ends after the units, or
-- after half a unit more.
pub record IsUnclosed (input : List ℕ) : Type 0 where
  pub attributes : ℕ
  pub len : ℕ
  pub units : List ℕ
  pub left : List ℕ
  pub four_bytes : attributes < 2 ^ 32
  pub two_bytes : len < 2 ^ 16
  pub nonzero : AllByRecursion IsUnit units
  pub half : length left < 2
  pub parts : input ≡ header_bytes attributes len ++ (units_bytes units ++ left)

-- what is before the list: Attributes, a FilePathListLength of this number, and a Description
pub record IsFront (front : List ℕ) (len : ℕ) : Type 0 where
  pub attributes : ℕ
  pub units : List ℕ
  pub four_bytes : attributes < 2 ^ 32
  pub two_bytes : len < 2 ^ 16
  pub nonzero : AllByRecursion IsUnit units
  pub is : front ≡ header_bytes attributes len ++ description_bytes units

-- fewer bytes follow the description than the list is to have: this many are left, of those that are stated
pub record IsCutList (input : List ℕ) (stated left : ℕ) : Type 0 where
  pub front : List ℕ
  pub rest : List ℕ
  pub before : IsFront front stated
  pub parts : input ≡ front ++ rest
  pub size : left ≡ length rest
  pub past : length rest < stated

-- the list is to have no byte
pub record IsEmptyList (input : List ℕ) : Type 0 where
  pub front : List ℕ
  pub rest : List ℕ
  pub before : IsFront front 0
  pub parts : input ≡ front ++ rest

-- The list is whole paths and a rest, in which no path begins: the rest, up to the list's end, has this first fault
-- of a path. The place is that of the rest in the input.
pub record IsFaultyList (input : List ℕ) (place : ℕ) (path_fault : PathFault) : Type 0 where
  pub front : List ℕ
  pub paths : List (List (List Node))
  pub rest : List ℕ
  pub optional : List ℕ
  pub before : IsFront front (length (list_bytes paths ++ rest))
  pub whole : AllByRecursion IsPath paths
  pub some : rest ≢ []
  pub parts : input ≡ front ++ ((list_bytes paths ++ rest) ++ optional)
  pub at : place ≡ length (front ++ list_bytes paths)
  pub first : IsFirstPathFault rest path_fault

-- The fault is the first of the input, by cases. The others are not faults of bytes.
abbrev pub IsFirstFault : List ℕ → OptionFault → Type 0
IsFirstFault input (fault.Short found) = (found ≡ length input) × (length input < 6)
IsFirstFault input fault.NoTerminator = IsUnclosed input
IsFirstFault input (fault.ListPastEnd stated left) = IsCutList input stated left
IsFirstFault input fault.EmptyList = IsEmptyList input
IsFirstFault input (fault.Path place path_fault) = IsFaultyList input place path_fault
IsFirstFault input fault.ZeroUnit = ⊥
IsFirstFault input fault.ListTooLong = ⊥
IsFirstFault input fault.OutOfMemory = ⊥
