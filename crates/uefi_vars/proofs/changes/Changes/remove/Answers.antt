use Rattle.std.proofs.Common.{None, ap, ◌∙◌}
use Rattle.std.specs.FinMap.{from_sorted, remove}
use Rattle.uefi_vars.specs.NameChanges.{with_changes}
use Rattle.uefi_vars.specs.Records.{pairs_of}
use Rattle.uefi_vars.proofs.NameChanges.{with_changes-put}
use Rattle.uefi_vars.proofs.changes.Changes.remove.Goals as goal

pub returns-clause-removed : goal.returns-clause-removed
returns-clause-removed c vars =
    let name = c.args.name.now in
    ap (λ l. with_changes vars (from_sorted l)) c.in_ok-store_removal.ensures.stored
    ∙ with_changes-put (pairs_of c.self.inside.changes.items) c.self.invariant name None vars
    ∙ ap (λ m. remove (with_changes vars m) name) c.self.view_is
