-- How changes are held: each name once, in the order of the names.
use Rattle.std.specs.Prelude.{ℕ, List, Option}
use Rattle.std.specs.List.{AllByRecursion}
use Rattle.std.specs.FinMap.{from_sorted}
use Rattle.uefi_vars.specs.declared.named.Named.{Named}
use Rattle.uefi_vars.specs.NameChanges.{NameChanges, IsChange}
use Rattle.uefi_vars.specs.Records.{pairs_of, IsRising}

-- names that rise strictly, and new data that may be in a set
pub record AreChanges (pairs : List (List ℕ × Option (List ℕ))) : Type 0 where
  pub rising : IsRising pairs
  pub each : AllByRecursion IsChange pairs

-- the map that they are
abbrev pub changes_of : List (Named (Option (List ℕ))) → NameChanges
changes_of changes = from_sorted (pairs_of changes)
