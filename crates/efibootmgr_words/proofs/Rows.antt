-- The rows of a table whose names begin so.
use Rattle.std.proofs.Common.{◌≡◌, ℕ, Bool, eqb, List, ◌∷◌, drop}
use Rattle.std.specs.Prelude.{Option, Some, None, Result, filter}
use Rattle.std.specs.List.{starts_with}
use Rattle.efibootmgr_words.specs.Parts.{FaultParts}
use Rattle.efibootmgr_words.specs.Words.{only_row}
use Rattle.efibootmgr_words.specs.declared.option_table.OptionRow.{OptionRow}

abbrev pub begins : List ℕ → OptionRow → Bool
begins name row = starts_with eqb row.name.now name

-- the only row, of one that was found and those that are left
abbrev pub only_after : List ℕ → Option OptionRow → List OptionRow → Result OptionRow FaultParts
only_after name None rows = only_row name rows
only_after name (Some row) rows = only_row name (row ∷ rows)

-- so many rows of the table were looked at, and this one was found
pub record IsSought (name : List ℕ) (table : List OptionRow) (at : ℕ) (found : Option OptionRow) : Type 0 where
  pub rest : only_after name found (filter (begins name) (drop at table)) ≡ only_row name (filter (begins name) table)
