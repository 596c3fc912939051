use Rattle.std.proofs.lemmas.Cmp.{nat_list_cmp_total}
use Rattle.uefi_vars.proofs.Maps.{name_cmp-IsAntisymmetric}
use Rattle.uefi_vars.proofs.MapChanges.{insert-swap}
use Rattle.uefi_vars.proofs.laws.puts_under_two_names_commute.Goals as goal

pub returns : goal.returns
returns c vars a b value other differ =
    insert-swap nat_list_cmp_total name_cmp-IsAntisymmetric vars a b value other (λ tie. differ (name_cmp-IsAntisymmetric a b tie))
