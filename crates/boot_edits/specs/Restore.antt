-- Variables that are brought back.
use Rattle.std.specs.Prelude.{◌≡◌, ℕ, List, true, false}
use Rattle.std.specs.FinMap.{get}
use Rattle.uefi_vars.specs.Vars.{Variables}
use Rattle.uefi_vars.specs.BootChange.{is_boot_name}

-- those of the boot manager are the ones to be brought back, and the others are as they were
pub record IsRestored (back from to : Variables) : Type 0 where
  pub boot : (name : List ℕ) → is_boot_name name ≡ true → get to name ≡ get back name
  pub others : (name : List ℕ) → is_boot_name name ≡ false → get to name ≡ get from name
