-- Why parts make no load option.
use Rattle.std.specs.Prelude.{◌≢◌, ℕ, ◌≤◌, List, [], length}
use Rattle.std.specs.List.{AllByRecursion}
use Rattle.uefi_path.specs.declared.node.Node.{Node}
use Rattle.uefi_path.specs.Parts.{IsUnit}
use Rattle.uefi_path.specs.Path.{IsPath}
use Rattle.uefi_option.specs.declared.fault.OptionFault.{OptionFault}
use Rattle.uefi_option.specs.declared.fault.OptionFault.TheVariants as fault
use Rattle.uefi_option.specs.LoadOption.{list_max, list_bytes}

-- one of the faults with which parts are refused
abbrev pub IsPartsFault : OptionFault → Type 0
IsPartsFault fault.ZeroUnit = Unit {0}
IsPartsFault fault.EmptyList = Unit {0}
IsPartsFault fault.ListTooLong = Unit {0}
IsPartsFault fault.OutOfMemory = Unit {0}
IsPartsFault _ = ⊥

-- the description and the paths are those of an option
pub record ArePartsOfOption (description : List ℕ) (paths : List (List (List Node))) : Type 0 where
  pub nonzero : AllByRecursion IsUnit description
  pub some : paths ≢ []
  pub whole : AllByRecursion IsPath paths
  pub len : length (list_bytes paths) ≤ list_max
