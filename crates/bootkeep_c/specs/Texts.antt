-- Why bytes aren't the text of a path.
use Rattle.std.specs.Prelude.{◌≡◌, ◌⊎◌, ℕ, List}
use Rattle.std.specs.Str.{IsUtf8, IsValidUpTo}
use Rattle.uefi_text.specs.declared.fault.TextFault.{TextFault}
use Rattle.uefi_text.specs.Fault.{IsTextFault}
use Rattle.bootkeep_c.specs.declared.failure.Failure.{Failure}
use Rattle.bootkeep_c.specs.Refusals.{text_failure, not_utf8}

-- they aren't UTF-8 from some place on, or they are and the text has a fault
abbrev pub IsTextFailure : List ℕ → Failure → Type 0
IsTextFailure text failed =
    ((¬ IsUtf8 text) × (place : ℕ) × IsValidUpTo text place × (failed ≡ not_utf8 place))
    ⊎ (IsUtf8 text × (fault : TextFault) × IsTextFault text fault × (failed ≡ text_failure fault))
