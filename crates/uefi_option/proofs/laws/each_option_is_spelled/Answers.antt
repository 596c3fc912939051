use Rattle.std.proofs.Common.{refl}
use Rattle.uefi_option.specs.LoadOption.{option_bytes}
use Rattle.uefi_option.proofs.Options.{option_is_bytes}
use Rattle.uefi_option.proofs.laws.each_option_is_spelled.Goals as goal

pub returns : goal.returns
returns c = λ option is. (option_bytes option, (is, refl), option_is_bytes c.each_path_is_spelled.ensures c.units_have_two_bytes_each.ensures option is)
