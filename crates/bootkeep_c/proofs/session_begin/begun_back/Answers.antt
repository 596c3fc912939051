use Rattle.std.proofs.Common.{◌≢◌, IfOk, IfErr, inl, inr}
use Rattle.std.proofs.lemmas.Result.{IfOk-weaker, IfErr-weaker, err_from_is_err_and}
use Rattle.bootkeep_c.specs.declared.failure.Failure.TheVariants.{Memory}
use Rattle.bootkeep_c.specs.declared.wanted_run.WantedRun.TheVariants as wanted
use Rattle.bootkeep_c.specs.Sessions.{IsBegun, IsBegunBack, IsBeginFailure, IsUnbegunBack}
use Rattle.bootkeep_c.proofs.session_begin.begun_back.Goals as goal

pub returns-clause-begun : goal.returns-clause-begun
returns-clause-begun c =
    let read = c.args.read in
    let back = c.in_ok-back.back in
    IfOk-weaker c.begun.result
    (λ session. IsBegun read.machine.now read.start.now read.set.now read.journal.now (wanted.Restore back) session.value)
    (λ session. IsBegunBack read.machine.now read.start.now read.set.now read.journal.now c.args.back.now session.value)
    (λ session begun. (back, c.in_ok-back.ensures.read, begun)) c.begun.ensures.begun

pub returns-in_err-back-clause-fault : goal.returns-in_err-back-clause-fault
returns-in_err-back-clause-fault c =
    let p = err_from_is_err_and c.from_residual.result c.from_residual.ensures.1 in
    rw (p.1, p.2) (λ other. inl (c.in_err-back.ensures.fault other))

pub returns-clause-fault : goal.returns-clause-fault
returns-clause-fault c =
    let read = c.args.read in
    IfErr-weaker c.begun.result
    (λ failed. failed ≢ Memory → IsBeginFailure read.machine.now read.start.now read.set.now read.journal.now failed)
    (λ failed. failed ≢ Memory → IsUnbegunBack read.machine.now read.start.now read.set.now read.journal.now c.args.back.now failed)
    (λ failed why other. inr (c.in_ok-back.back, c.in_ok-back.ensures.read, why other)) c.begun.ensures.fault
