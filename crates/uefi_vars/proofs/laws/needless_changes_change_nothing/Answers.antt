use Rattle.std.proofs.lemmas.Cmp.{nat_list_cmp_total}
use Rattle.uefi_vars.proofs.Maps.{name_cmp-IsAntisymmetric}
use Rattle.uefi_vars.proofs.MapChanges.{insert_same, remove_absent}
use Rattle.uefi_vars.proofs.laws.needless_changes_change_nothing.Goals as goal

pub returns : goal.returns
returns c = record {
  put = λ vars name value held. insert_same nat_list_cmp_total name_cmp-IsAntisymmetric vars name value held;
  removed = λ vars name absent. remove_absent nat_list_cmp_total name_cmp-IsAntisymmetric vars name absent;
}
