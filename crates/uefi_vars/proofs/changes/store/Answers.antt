use Rattle.std.proofs.Common.{Some, sym, subst, ◌∙◌}
use Rattle.std.specs.FinMap.Entries.{put}
use Rattle.uefi_vars.specs.Vars.{name_cmp}
use Rattle.uefi_vars.specs.Records.{pairs_of, IsPlace}
use Rattle.uefi_vars.specs.ChangeRecords.{AreChanges}
use Rattle.uefi_vars.proofs.NameChanges.{AreChanges-put}
use Rattle.uefi_vars.proofs.changes.store.Goals as goal

pub set_at-requires-clause-place : goal.set_at-requires-clause-place
set_at-requires-clause-place c =
    let name = c.args.name.now in
    (name, subst (λ l. IsPlace (pairs_of l) name c.in-Ok.place) (sym c.make_place.ensures.same) c.in-Ok.ensures.place)

pub returns-in-Ok-from_vec-clause-held : goal.returns-in-Ok-from_vec-clause-held
returns-in-Ok-from_vec-clause-held c =
    let name = c.args.name.now in
    let same = c.make_place.ensures.same in
    let stored = c.set_at.ensures.stored name (subst (λ l. IsPlace (pairs_of l) name c.in-Ok.place) (sym same) c.in-Ok.ensures.place)
    ∙ (λ i. put name_cmp name (Some (c.in-Ok-from_vec.ensures.shared i)) (pairs_of (same i))) in
    subst AreChanges (sym stored) (AreChanges-put (pairs_of c.args.changes.now.items) c.requires.rising name (Some c.args.value.items) c.requires.valid)
