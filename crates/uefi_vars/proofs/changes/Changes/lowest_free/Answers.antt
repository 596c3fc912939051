use Rattle.std.proofs.Common.{sym, ap, subst, ◌∙◌}
use Rattle.std.proofs.lemmas.Bool.{eqb-true}
use Rattle.uefi_vars.specs.Vars.{entry_of}
use Rattle.uefi_vars.specs.Free.{IsLowestFreeIfAny}
use Rattle.uefi_vars.specs.NameChanges.{with_changes}
use Rattle.uefi_vars.specs.ChangeRecords.{changes_of}
use Rattle.uefi_vars.proofs.NameChanges.{none_of, changes_of_none, with_changes-empty}
use Rattle.uefi_vars.proofs.changes.Changes.lowest_free.Goals as goal

pub returns-then-is_empty : goal.returns-then-is_empty
returns-then-is_empty c =
    let changes = c.self.inside.changes in
    let vars = c.args.vars.now in
    let none = none_of changes.items (sym changes.ok.0 ∙ eqb-true changes.len 0 (sym c.is_empty.ensures ∙ c.if-is_empty.true)) in
    let same = ap (with_changes vars) (sym c.self.view_is ∙ ap changes_of none ∙ changes_of_none) ∙ with_changes-empty vars in
    subst (λ m. IsLowestFreeIfAny (entry_of m) c.lowest_free.result) (sym same) c.lowest_free.ensures.free
