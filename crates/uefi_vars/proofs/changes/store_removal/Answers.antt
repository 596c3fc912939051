use Rattle.std.proofs.Common.{None, sym, subst, ap, ◌∙◌}
use Rattle.std.specs.FinMap.Entries.{put}
use Rattle.uefi_vars.specs.Vars.{name_cmp}
use Rattle.uefi_vars.specs.Records.{pairs_of, IsPlace}
use Rattle.uefi_vars.specs.ChangeRecords.{AreChanges}
use Rattle.uefi_vars.proofs.NameChanges.{AreChanges-put}
use Rattle.uefi_vars.proofs.changes.store_removal.Goals as goal

pub set_at-requires-clause-place : goal.set_at-requires-clause-place
set_at-requires-clause-place c =
    let name = c.args.name.now in
    (name, subst (λ l. IsPlace (pairs_of l) name c.in_ok-place.place) (sym c.make_place.ensures.same) c.in_ok-place.ensures.place)

pub returns-clause-held : goal.returns-clause-held
returns-clause-held c =
    let name = c.args.name.now in
    let same = c.make_place.ensures.same in
    let stored = c.set_at.ensures.stored name (subst (λ l. IsPlace (pairs_of l) name c.in_ok-place.place) (sym same) c.in_ok-place.ensures.place)
    ∙ ap (λ l. put name_cmp name None (pairs_of l)) same in
    subst AreChanges (sym stored) (AreChanges-put (pairs_of c.args.changes.now.items) c.requires name None tt)
