use Rattle.std.proofs.Common.{◌≡◌, Err, ap}
use Rattle.std.proofs.lemmas.Result.{err_from_is_err_and}
use Rattle.bootkeep_c.specs.Refusals.{path_failure}
use Rattle.bootkeep_c.proofs.named_path.named.Goals as goal

pub returns-in_err-check_path-clause-only_fault : goal.returns-in_err-check_path-clause-only_fault
returns-in_err-check_path-clause-only_fault c = λ fault first.
    let p = err_from_is_err_and c.from_residual.result c.from_residual.ensures.1 in
    let told : Err c.in_err-check_path.field-0.0 ≡ Err fault = c.in_err-check_path.ensures.only_fault fault first in
    let same : c.in_err-check_path.field-0.0 ≡ fault = cc in
    rw (p.1, p.2) (ap path_failure same)

pub returns-in_err-text-clause-only_fault : goal.returns-in_err-text-clause-only_fault
returns-in_err-text-clause-only_fault c = λ fault first. let e = c.in_ok-check_path.ensures.only_fault fault first in absurd cc
