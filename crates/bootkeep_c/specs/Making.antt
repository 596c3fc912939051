-- Load options of parts as C gives them (UEFI 2.10, 3.1.3).
use Rattle.std.specs.Prelude.{◌≡◌, ◌≢◌, ◌⊎◌, ℕ, ◌<◌, List, [], ◌++◌, length, Contains}
use Rattle.std.specs.List.{AllByRecursion, flat_map}
use Rattle.std.specs.Char.Escape.{encode_utf16}
use Rattle.std.specs.Str.{IsUtf8, IsValidUpTo, chars}
use Rattle.uefi_path.specs.declared.node.Node.{Node}
use Rattle.uefi_path.specs.declared.fault.PathFault.{PathFault}
use Rattle.uefi_path.specs.Path.{IsPath}
use Rattle.uefi_path.specs.Fault.{IsFirstFault}
use Rattle.uefi_option.specs.declared.fault.OptionFault.{OptionFault}
use Rattle.uefi_option.specs.declared.fault.OptionFault.TheVariants as fault
use Rattle.uefi_option.specs.LoadOption.{OptionParts, SpellsOption, list_bytes, list_max}
use Rattle.bootkeep_c.specs.declared.failure.Failure.{Failure}
use Rattle.bootkeep_c.specs.Refusals.{at_place, path_failure, list_failure, option_failure}

-- the units of a text in UTF-16
abbrev pub text_units : List ℕ → List ℕ
text_units text = flat_map encode_utf16 (chars text)

-- The bytes are the load option of these parts: its attributes, the units of its description, the bytes of its paths, one
-- path after the other, and its optional data.
pub record IsOptionOfUnits (attributes : ℕ) (units list optional bytes : List ℕ) : Type 0 where
  pub option : OptionParts
  pub attributes_are : option.attributes ≡ attributes
  pub description_is : option.description ≡ units
  pub list_is : list_bytes option.paths ≡ list
  pub optional_is : option.optional ≡ optional
  pub spelled : SpellsOption bytes option

-- the same, with a text as the description
pub record IsOptionOf (attributes : ℕ) (description list optional bytes : List ℕ) : Type 0 where
  pub is_text : IsUtf8 description
  pub of_units : IsOptionOfUnits attributes (text_units description) list optional bytes

-- the bytes are these paths, one after the other
pub record ArePathsOf (list : List ℕ) (paths : List (List (List Node))) : Type 0 where
  pub whole : AllByRecursion IsPath paths
  pub parts : list ≡ list_bytes paths

-- the bytes are whole paths, and a rest at this place, which has this first fault of a path
pub record HasBadPath (list : List ℕ) (place : ℕ) (path_fault : PathFault) : Type 0 where
  pub paths : List (List (List Node))
  pub rest : List ℕ
  pub whole : AllByRecursion IsPath paths
  pub some : rest ≢ []
  pub parts : list ≡ list_bytes paths ++ rest
  pub at : place ≡ length (list_bytes paths)
  pub first : IsFirstFault rest path_fault

-- why a description and paths make no option
abbrev pub IsPartsFault : List ℕ → List (List (List Node)) → OptionFault → Type 0
IsPartsFault units paths fault.ZeroUnit = Contains units 0
IsPartsFault units paths fault.EmptyList = (¬ Contains units 0) × (paths ≡ [])
IsPartsFault units paths fault.ListTooLong = (¬ Contains units 0) × (list_max < length (list_bytes paths))
IsPartsFault units paths _ = ⊥

-- a description that isn't UTF-8 from this place on
abbrev pub not_a_text : ℕ → Failure
not_a_text place = at_place 0x0308 place

-- Why units and paths make no load option: the list isn't paths, or they are some and make none.
abbrev pub IsUnitsFailure : List ℕ → List ℕ → Failure → Type 0
IsUnitsFailure units list failed =
    ((place : ℕ) × (path_fault : PathFault) × HasBadPath list place path_fault
    × (failed ≡ list_failure place (path_failure path_fault)))
    ⊎ ((paths : List (List (List Node))) × ArePathsOf list paths
    × (option_fault : OptionFault) × IsPartsFault units paths option_fault × (failed ≡ option_failure option_fault))

-- Why parts make no load option: the description isn't UTF-8, or it is and its units and the paths make none.
abbrev pub IsMakeFailure : List ℕ → List ℕ → Failure → Type 0
IsMakeFailure description list failed =
    ((¬ IsUtf8 description) × (place : ℕ) × IsValidUpTo description place × (failed ≡ not_a_text place))
    ⊎ (IsUtf8 description × IsUnitsFailure (text_units description) list failed)
