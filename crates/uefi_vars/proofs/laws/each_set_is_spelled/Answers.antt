use Rattle.std.proofs.Common.{refl}
use Rattle.uefi_vars.specs.Set.{set_bytes}
use Rattle.uefi_vars.proofs.Sets.{set_is_bytes}
use Rattle.uefi_vars.proofs.laws.each_set_is_spelled.Goals as goal

pub returns : goal.returns
returns c = λ vars are. (set_bytes vars, (are, refl), set_is_bytes vars are)
