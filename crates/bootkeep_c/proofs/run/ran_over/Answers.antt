use Rattle.std.proofs.Common.{inl, inr}
use Rattle.std.proofs.lemmas.Result.{err_from_is_err_and}
use Rattle.boot_requests.proofs.Answering.Happening.{happens}
use Rattle.bootkeep_c.proofs.run.ran_over.Goals as goal

pub returns-in_err-events-clause-fault : goal.returns-in_err-events-clause-fault
returns-in_err-events-clause-fault c =
    let p = err_from_is_err_and c.from_residual-in_err-events.result c.from_residual-in_err-events.ensures.1 in
    rw (p.1, p.2) (λ other. inr (inl (c.in_ok-vars.vars, c.in_ok-vars.ensures.found, c.in_err-events.ensures.fault other)))

pub returns-in_err-keeper-clause-fault : goal.returns-in_err-keeper-clause-fault
returns-in_err-keeper-clause-fault c =
    let p = err_from_is_err_and c.from_residual-in_err-keeper.result c.from_residual-in_err-keeper.ensures.1 in
    rw (p.1, p.2) (λ other. inr (inr (
      c.in_ok-vars.vars,
      c.in_ok-events.events.items,
      c.in_ok-vars.ensures.found,
      c.in_ok-events.ensures.found,
      c.in_err-keeper.ensures.fault other,
    )))

pub returns-in_err-bytes-clause-fault : goal.returns-in_err-bytes-clause-fault
returns-in_err-bytes-clause-fault c =
    let p = err_from_is_err_and c.from_residual-in_err-bytes.result c.from_residual-in_err-bytes.ensures.1 in
    rw p.1 (λ other. absurd (other p.2))

pub returns-clause-ran : goal.returns-clause-ran
returns-clause-ran c =
    let opened = c.in_ok-keeper.ensures.opened in
    let told = rw c.deref.ensures.value at c.in_ok-keeper-2.ensures.answered in
    record {
      vars = c.in_ok-vars.vars;
      events = c.in_ok-events.events.items;
      left = c.vars-2.result.now;
      replies = told.0;
      spelled = c.in_ok-vars.ensures.found;
      read = c.in_ok-events.ensures.found;
      happens = happens c.in_ok-vars.vars c.vars-2.result.now c.in_ok-events.events.items c.in_ok-keeper.keeper c.in_ok-keeper-2.keeper told.0 opened.0
          opened.1 told.1
          c.vars-2.ensures.valid c.vars-2.ensures.image;
      written = c.in_ok-bytes.ensures.written;
      lines_are = told.2;
    }
