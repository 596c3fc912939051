use Rattle.std.proofs.lemmas.Cmp.{nat_list_cmp_total}
use Rattle.uefi_vars.proofs.Maps.{name_cmp-IsAntisymmetric}
use Rattle.uefi_vars.proofs.MapChanges.{insert-insert, remove-insert, insert-remove}
use Rattle.uefi_vars.proofs.laws.the_last_change_of_a_name_counts.Goals as goal

pub returns : goal.returns
returns c = record {
  put_put = λ vars name value other. insert-insert nat_list_cmp_total name_cmp-IsAntisymmetric vars name value other;
  put_removed = λ vars name value. remove-insert nat_list_cmp_total name_cmp-IsAntisymmetric vars name value;
  removed_put = λ vars name value. insert-remove nat_list_cmp_total name_cmp-IsAntisymmetric vars name value;
}
