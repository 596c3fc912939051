use Rattle.std.proofs.Common.{is_some, refl, sym, ap, subst, ◌∙◌, arith}
use Rattle.std.proofs.lemmas.Cmp.{nat_list_cmp_total}
use Rattle.uefi_vars.specs.Vars.{name_cmp}
use Rattle.uefi_vars.specs.Records.{pair_of, pairs_of, AreVariables, IsAt, IsGap}
use Rattle.uefi_vars.proofs.Maps.{AreVariables-without}
use Rattle.uefi_vars.proofs.Places.{some_at, find_at, find_gap, without_at, without_gap, map-remove}
use Rattle.uefi_vars.proofs.vars.erase.Goals as goal

pub returns-in-Ok : goal.returns-in-Ok
returns-in-Ok c =
    let variables = c.args.variables.now.items in
    let name = c.args.name.now in
    let place = c.in-Ok.place in
    let at = subst (λ l. IsAt (pairs_of l) name place) c.deref.ensures.value c.in-Ok.ensures.found in
    let found = find_at name_cmp nat_list_cmp_total name (pairs_of variables) place at.below at.named in
    let erased = ap pairs_of c.remove.ensures.items ∙ map-remove pair_of variables place
    ∙ sym (without_at name_cmp nat_list_cmp_total name (pairs_of variables) place at.below at.named at.above) in
    record {
      was = sym (ap is_some found ∙ some_at (λ e. e.1) (pairs_of variables) place at.within);
      erased = erased;
      held = subst AreVariables (sym erased) (AreVariables-without (pairs_of variables) c.requires name);
      len = omega (arith, c.remove.ensures.len);
      capacity = c.remove.ensures.capacity;
    }

pub returns-in-Err : goal.returns-in-Err
returns-in-Err c =
    let variables = c.args.variables.now.items in
    let name = c.args.name.now in
    let place = c.in-Err.field-0 in
    let gap = subst (λ l. IsGap (pairs_of l) name place) c.deref.ensures.value c.in-Err.ensures.absent in
    record {
      was = sym (ap is_some (find_gap name_cmp nat_list_cmp_total name (pairs_of variables) place gap.below gap.above));
      erased = sym (without_gap name_cmp nat_list_cmp_total name (pairs_of variables) place gap.below gap.above);
      held = c.requires;
      len = omega arith;
      capacity = refl;
    }
