use Rattle.std.proofs.Common.{sym, ap, ◌∙◌}
use Rattle.std.specs.FinMap.{entries}
use Rattle.uefi_vars.proofs.NameChanges.{entries-changes_of}
use Rattle.uefi_vars.proofs.changes.Changes.into_each.Goals as goal

pub returns-clause-each : goal.returns-clause-each
returns-clause-each c = sym (entries-changes_of c.self.inside.changes.items c.self.invariant) ∙ ap entries c.self.view_is
