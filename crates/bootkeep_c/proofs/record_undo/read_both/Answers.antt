use Rattle.std.proofs.Common.{inr, refl, ap}
use Rattle.std.proofs.lemmas.Result.{err_from_is_err_and}
use Rattle.change_records.specs.Record.{record_parts}
use Rattle.bootkeep_c.specs.Refusals.{set_failure}
use Rattle.bootkeep_c.proofs.record_undo.read_both.Goals as goal

pub returns-in_err-now-clause-fault : goal.returns-in_err-now-clause-fault
returns-in_err-now-clause-fault c =
    let p = err_from_is_err_and c.from_residual-in_err-now.result c.from_residual-in_err-now.ensures.1 in
    rw (p.1, p.2) (λ other. inr (
      record_parts c.in_ok-change.change,
      c.in_ok-change.ensures.found,
      (c.in_err-now.field-0.0, c.in_err-now.ensures.fault (λ is. other (ap set_failure is)), refl),
    ))
