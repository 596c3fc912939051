use Rattle.std.proofs.Common.{ap, ◌∙◌}
use Rattle.uefi_vars.specs.NameChanges.{with_changes}
use Rattle.uefi_vars.specs.ChangeRecords.{changes_of}
use Rattle.uefi_vars.proofs.NameChanges.{changes_of_none, with_changes-empty}
use Rattle.uefi_vars.proofs.changes.Changes.new.Goals as goal

pub returns : goal.returns
returns c vars = ap (λ l. with_changes vars (changes_of l)) c.new.ensures.items ∙ ap (with_changes vars) changes_of_none ∙ with_changes-empty vars
