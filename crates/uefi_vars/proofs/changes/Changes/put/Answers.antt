use Rattle.std.proofs.Common.{Some, ap, ◌∙◌}
use Rattle.std.specs.FinMap.{from_sorted, insert}
use Rattle.uefi_vars.specs.NameChanges.{with_changes}
use Rattle.uefi_vars.proofs.NameChanges.{with_changes-put}
use Rattle.uefi_vars.proofs.changes.Changes.put.Goals as goal

pub returns-clause-put : goal.returns-clause-put
returns-clause-put c vars =
    let name = c.args.name.now in
    let value = c.in_ok-value.value.items in
    ap (λ l. with_changes vars (from_sorted l)) c.in_ok-store.ensures.stored
    ∙ with_changes-put _ c.self.invariant name (Some value) vars
    ∙ (λ i. insert (with_changes vars (c.self.view_is i)) name (c.in_ok-value.ensures.items i))
