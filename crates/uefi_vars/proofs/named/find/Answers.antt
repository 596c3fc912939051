use Rattle.std.proofs.Common.{option_map, sym, ap, ◌∙◌, arith}
use Rattle.std.proofs.lemmas.Cmp.{nat_list_cmp_total}
use Rattle.std.proofs.lemmas.List.{length-map}
use Rattle.std.proofs.lemmas.Option.{slice_get-map, slice_get-get_or}
use Rattle.uefi_vars.specs.Vars.{name_cmp}
use Rattle.uefi_vars.specs.Records.{pair_of, pairs_of}
use Rattle.uefi_vars.proofs.Places.{find_at, find_gap}
use Rattle.uefi_vars.proofs.named.find.Goals as goal

pub returns-in-Ok : goal.returns-in-Ok
returns-in-Ok g c =
    let items = c.args.items.now in
    let at = c.in-Ok.ensures.found in
    let read = slice_get-get_or items c.in-Ok.index c.index-items-index.result (omega (arith, at.within, length-map items pair_of)) in
    let found = find_at name_cmp nat_list_cmp_total c.args.name.now (pairs_of items) c.in-Ok.index at.below at.named in
    sym (found ∙ ap (option_map (λ e. e.1)) (slice_get-map pair_of items c.in-Ok.index ∙ ap (option_map pair_of) read))

pub returns-in-Err : goal.returns-in-Err
returns-in-Err g c =
    let gap = c.in-Err.ensures.absent in
    sym (find_gap name_cmp nat_list_cmp_total c.args.name.now (pairs_of c.args.items.now) _ gap.below gap.above)
