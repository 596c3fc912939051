use Rattle.std.proofs.Common.{◌<◌, length, refl, ap, arith}
use Rattle.std.proofs.lemmas.Result.{err_from_is_err_and}
use Rattle.bootkeep_c.specs.Refusals.{journal_failure}
use Rattle.bootkeep_c.proofs.journal.idle_in.Goals as goal

pub returns-in_err-file-clause-fault : goal.returns-in_err-file-clause-fault
returns-in_err-file-clause-fault c =
    let p = err_from_is_err_and c.from_residual.result c.from_residual.ensures.1 in
    let some : 0 < length c.args.bytes.now = grind (arith, c.is_empty.ensures, c.if-is_empty.false) in
    rw (p.1, p.2) (λ other. (
      (λ none. omega (arith, ap length none, some)),
      (c.in_err-file.field-0.0, c.in_err-file.ensures.fault (λ is. other (ap journal_failure is)), refl),
    ))
