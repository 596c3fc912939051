use Rattle.std.proofs.Common.{refl}
use Rattle.uefi_option.specs.Equality.{option_eq}
use Rattle.uefi_option.proofs.Comparison.{option_eq-Decides}
use Rattle.uefi_option.proofs.laws.load_options_compare_as_values.Goals as goal

pub returns : goal.returns
returns c = λ a b. option_eq-Decides c.paths_compare_as_values.ensures a b (option_eq a b) refl
