-- Whether a profile changes anything.
use Rattle.std.specs.Prelude.{Bool, ◌==◌, not, length}
use Rattle.uefi_vars.specs.Vars.{Variables}
use Rattle.uefi_vars.specs.BootChange.{changes_from}

-- a variable of the boot manager becomes another, comes or goes
abbrev pub has_changes : Variables → Variables → Bool
has_changes from to = not (length (changes_from from to) == 0)
