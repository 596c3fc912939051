use Rattle.std.proofs.Common.{ℕ, List, ap, ◌∙◌}
use Rattle.std.specs.FinMap.{insert}
use Rattle.uefi_vars.specs.NameChanges.{with_changes}
use Rattle.uefi_vars.specs.Name.{keep_text}
use Rattle.boot_requests.proofs.Variables.Edits.{mark_put}
use Rattle.boot_requests.proofs.edit.store_mark.Goals as goal

pub returns-clause-changes : goal.returns-clause-changes
returns-clause-changes c = λ vars m h.
    mark_put m _ _ c.args.mark.now.next_number c.args.mark.now.kept c.requires c.bytes.ensures.valid
    (c.in_ok-put.ensures vars ∙ ap (λ (b : List ℕ). insert (with_changes vars c.args.changes.now) keep_text b) (c.in_ok-bytes.ensures.bytes)) h

pub returns-clause-put : goal.returns-clause-put
returns-clause-put c = λ vars.
    c.in_ok-put.ensures vars ∙ ap (λ (b : List ℕ). insert (with_changes vars c.args.changes.now) keep_text b) (c.in_ok-bytes.ensures.bytes)
