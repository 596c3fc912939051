use Rattle.std.proofs.Common.{Some, None, sym, ap, ◌∙◌, ◌≡◌}
use Rattle.std.specs.FinMap.{get}
use Rattle.std.specs.FinMap.Entries.{find}
use Rattle.uefi_vars.specs.Vars.{name_cmp}
use Rattle.uefi_vars.specs.NameChanges.{with_changes}
use Rattle.uefi_vars.specs.Records.{pairs_of}
use Rattle.uefi_vars.proofs.NameChanges.{get_changed, get_unchanged}
use Rattle.uefi_vars.proofs.changes.Changes.get.Goals as goal

pub returns-in-Some-Some : goal.returns-in-Some-Some
returns-in-Some-Some c =
    let changes = c.self.inside.changes.items in
    let name = c.args.name.now in
    let found : find name_cmp name (pairs_of changes) ≡ Some (Some c.as_slice.result.now) =
    sym (λ i. find name_cmp (c.as_bytes.ensures.value i) (pairs_of (c.deref.ensures.value i))) ∙ sym c.in-Some-Some.ensures
    ∙ ap Some (c.in-Some-Some.field-0-is ∙ ap Some (sym c.as_slice.ensures)) in
    sym (get_changed changes c.self.invariant c.args.vars.now name _ found) ∙ ap (λ m. get (with_changes c.args.vars.now m) name) c.self.view_is

pub returns-in-Some-None : goal.returns-in-Some-None
returns-in-Some-None c =
    let changes = c.self.inside.changes.items in
    let name = c.args.name.now in
    let found : find name_cmp name (pairs_of changes) ≡ Some None =
    sym (λ i. find name_cmp (c.as_bytes.ensures.value i) (pairs_of (c.deref.ensures.value i))) ∙ sym c.in-Some-None.ensures
    ∙ ap Some c.in-Some-None.field-0-is in
    sym (get_changed changes c.self.invariant c.args.vars.now name _ found) ∙ ap (λ m. get (with_changes c.args.vars.now m) name) c.self.view_is

pub returns-in-None : goal.returns-in-None
returns-in-None c =
    let changes = c.self.inside.changes.items in
    let name = c.args.name.now in
    let found : find name_cmp name (pairs_of changes) ≡ None =
    sym (λ i. find name_cmp (c.as_bytes.ensures.value i) (pairs_of (c.deref.ensures.value i))) ∙ sym c.in-None.ensures in
    c.get.ensures.value ∙ sym (get_unchanged changes c.self.invariant c.args.vars.now name found)
    ∙ ap (λ m. get (with_changes c.args.vars.now m) name) c.self.view_is
