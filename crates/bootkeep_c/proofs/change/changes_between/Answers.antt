use Rattle.std.proofs.Common.{inr, refl, ap, map, ◌∙◌}
use Rattle.std.proofs.lemmas.Result.{err_from_is_err_and}
use Rattle.uefi_vars.specs.BootChange.{change_parts}
use Rattle.bootkeep_c.specs.Refusals.{set_failure}
use Rattle.bootkeep_c.proofs.NamesOfChanges.{all_told}
use Rattle.bootkeep_c.proofs.change.changes_between.Goals as goal

pub returns-in_err-after-clause-fault : goal.returns-in_err-after-clause-fault
returns-in_err-after-clause-fault c =
    let p = err_from_is_err_and c.from_residual-in_err-after.result c.from_residual-in_err-after.ensures.1 in
    let fault = c.in_err-after.field-0.0 in
    rw (p.1, p.2) (λ other. inr (
      c.in_ok-before.before,
      c.in_ok-before.ensures.found,
      (fault, c.in_err-after.ensures.fault (λ is. other (ap set_failure is)), refl),
    ))

pub returns-clause-found : goal.returns-clause-found
returns-clause-found c = (
  c.in_ok-before.before,
  c.in_ok-after.after,
  c.in_ok-before.ensures.found,
  c.in_ok-after.ensures.found,
  all_told c.in_ok-before.before c.in_ok-after.after (map change_parts c.deref.result.now) c.in_ok-told.told.items
      (ap (map change_parts) c.deref.ensures.value ∙ c.in_ok-changes.ensures)
      c.in_ok-told.ensures,
)
