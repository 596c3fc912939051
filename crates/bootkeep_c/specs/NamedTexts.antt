-- Texts of paths in which nodes may have their names.
use Rattle.std.specs.Prelude.{◌≡◌, ◌≢◌, ◌⊎◌, ℕ, List}
use Rattle.std.specs.Str.{IsUtf8, IsValidUpTo}
use Rattle.uefi_path.specs.declared.node.Node.{Node}
use Rattle.uefi_path.specs.Path.{path_bytes}
use Rattle.uefi_names.specs.declared.fault.NamedFault.{NamedFault}
use Rattle.uefi_names.specs.Standard.{standard_table}
use Rattle.uefi_names.specs.Reading.{IsNamedText}
use Rattle.bootkeep_c.specs.declared.failure.Failure.{Failure}
use Rattle.bootkeep_c.specs.Refusals.{named_failure, not_utf8}

-- the bytes are those of the path that the text stands for
pub record IsPathOfText (text bytes : List ℕ) : Type 0 where
  pub path : List (List Node)
  pub is_text : IsUtf8 text
  pub means : IsNamedText standard_table text path
  pub spelled : bytes ≡ path_bytes path

-- the text stands for no path
abbrev pub MeansNoPath : List ℕ → Type 0
MeansNoPath text = (path : List (List Node)) → IsNamedText standard_table text path → ⊥

-- Why bytes stand for no path: they aren't UTF-8 from some place on, or they are a text that stands for none.
abbrev pub IsNamedTextFailure : List ℕ → Failure → Type 0
IsNamedTextFailure text failed =
    ((¬ IsUtf8 text) × (place : ℕ) × IsValidUpTo text place × (failed ≡ not_utf8 place))
    ⊎ (IsUtf8 text × MeansNoPath text × (fault : NamedFault) × (failed ≡ named_failure fault))
