use Rattle.std.proofs.Common.{◌≡◌, inl, inr, ap, refl}
use Rattle.std.proofs.lemmas.Result.{err_from_is_err_and}
use Rattle.bootkeep_c.specs.Refusals.{edit_failure}
use Rattle.bootkeep_c.proofs.edit.edited_set.Goals as goal

pub returns-in_err-to-clause-fault : goal.returns-in_err-to-clause-fault
returns-in_err-to-clause-fault c =
    let p = err_from_is_err_and c.from_residual-in_err-to.result c.from_residual-in_err-to.ensures.1 in
    let reason = c.in_err-to.field-0.0 in
    rw (p.1, p.2) (λ some. inr (inr (record {
      wanted = c.in_ok-wanted.wanted;
      vars = c.in_ok-vars.vars;
      reason = reason;
      asks = c.in_ok-wanted.ensures.asked;
      spelled = c.in_ok-vars.ensures.found;
      refuses = c.in_err-to.ensures.refused (λ is. some (ap edit_failure is));
      is = refl;
    })))

pub returns-clause-made : goal.returns-clause-made
returns-clause-made c = record {
  wanted = c.in_ok-wanted.wanted;
  from = c.in_ok-vars.vars;
  to = c.in_ok-to.to;
  asks = c.in_ok-wanted.ensures.asked;
  spelled = c.in_ok-vars.ensures.found;
  edited = c.in_ok-to.ensures.done;
  are = c.in_ok-bytes.ensures.written;
}
