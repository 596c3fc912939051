use Rattle.std.proofs.Common.{◌∙◌, inr}
use Rattle.profile_files.proofs.entry.is_present.Goals as goal

pub returns-in-Ok-present-clause-present : goal.returns-in-Ok-present-clause-present
returns-in-Ok-present-clause-present c =
    let read = c.in-Ok-present.ensures in
    λ _. inr (c.in-Some.node.now, c.in-Some.ensures, (read.0, read.1, read.2, read.3 ∙ c.in-Ok-present.is-present))

pub returns-in-Ok-absent-clause-absent : goal.returns-in-Ok-absent-clause-absent
returns-in-Ok-absent-clause-absent c =
    let read = c.in-Ok-absent.ensures in
    λ _. (c.in-Some.node.now, c.in-Some.ensures, (read.0, read.1, read.2, read.3 ∙ c.in-Ok-absent.is-absent))
