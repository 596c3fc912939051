use Rattle.std.proofs.Common.{ap, sym, ◌∙◌}
use Rattle.uefi_vars.specs.Set.{set_bytes}
use Rattle.bootkeep_c.proofs.set.without_variable.Goals as goal

pub returns-then-not-remove-clause-absent : goal.returns-then-not-remove-clause-absent
returns-then-not-remove-clause-absent c = (c.in_ok-vars.vars, c.in_ok-vars.ensures.found, sym c.if-not-remove.ensures.was)

pub returns-clause-found : goal.returns-clause-found
returns-clause-found c = (
  c.in_ok-vars.vars,
  c.in_ok-vars.ensures.found,
  sym c.if-not-remove.ensures.was,
  c.in_ok-bytes.ensures.written ∙ ap set_bytes c.if-not-remove.ensures.removed,
)
