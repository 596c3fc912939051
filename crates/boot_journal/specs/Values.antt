-- What changes stand for.
use Rattle.std.specs.Prelude.{◌≡◌, ℕ, true, List, Option, IfSome, String, Vec}
use Rattle.std.specs.Global.{Global}
use Rattle.std.specs.Option.{option_map}
use Rattle.std.specs.String.{string_bytes}
use Rattle.uefi_vars.specs.Vars.{IsData}
use Rattle.uefi_vars.specs.BootChange.{ChangeParts, is_boot_name}

abbrev pub bytes_of : Option (Vec ℕ Global) → Option (List ℕ)
bytes_of bytes = option_map (λ b. b.items) bytes

abbrev pub change_of : String Global → Option (Vec ℕ Global) → Option (Vec ℕ Global) → ChangeParts
change_of name before after = record { name = string_bytes name; before = bytes_of before; after = bytes_of after }

-- a change of a variable of the boot manager, from and to what a variable can hold
pub record IsBootChange (change : ChangeParts) : Type 0 where
  pub boot : is_boot_name change.name ≡ true
  pub before : IfSome change.before IsData
  pub after : IfSome change.after IsData
