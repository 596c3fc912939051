use Rattle.std.specs.FinMap.{same_map}
use Rattle.std.proofs.lemmas.Cmp.{nat_list_cmp_total}
use Rattle.uefi_vars.proofs.Maps.{name_cmp-IsAntisymmetric}
use Rattle.uefi_vars.proofs.laws.variables_are_equal_name_by_name.Goals as goal

pub returns : goal.returns
returns c = λ a b same. same_map nat_list_cmp_total name_cmp-IsAntisymmetric a b same
