use Rattle.std.proofs.Common.{refl, inr}
use Rattle.std.proofs.lemmas.Result.{err_from_is_err_and}
use Rattle.bootkeep_c.proofs.session_begin.begun.Goals as goal

pub returns-in_err-journal-clause-fault : goal.returns-in_err-journal-clause-fault
returns-in_err-journal-clause-fault c =
    let p = err_from_is_err_and c.from_residual-in_err-journal.result c.from_residual-in_err-journal.ensures.1 in
    rw (p.1, p.2) (λ other. inr (inr (
      c.in_ok-machine.ensures.name.1,
      c.in_ok-start.ensures.start.1,
      inr (c.in_ok-vars.vars, c.in_ok-vars.ensures.found, rw c.in_ok-machine.ensures.name.0 at c.in_err-journal.ensures.fault other),
    )))

pub returns-in_err-new-clause-fault : goal.returns-in_err-new-clause-fault
returns-in_err-new-clause-fault c =
    let p = err_from_is_err_and c.from_residual-in_err-new.result c.from_residual-in_err-new.ensures.1 in
    rw p.1 (λ other. absurd (other p.2))

pub returns-clause-begun : goal.returns-clause-begun
returns-clause-begun c = rw c.in_ok-new.ensures.ok (record {
  vars = c.in_ok-vars.vars;
  of = c.in_ok-journal.journal;
  spelled = c.in_ok-vars.ensures.found;
  read = rw c.in_ok-machine.ensures.name.0 at c.in_ok-journal.ensures.read;
  dialogue = rw (c.in_ok-machine.ensures.name.0, c.in_ok-start.ensures.start.0) at c.new.ensures;
  wanted_is = refl;
  going = refl;
})
