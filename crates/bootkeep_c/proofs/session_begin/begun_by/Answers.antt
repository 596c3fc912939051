use Rattle.std.proofs.Common.{◌≢◌, IfOk, IfErr, inr}
use Rattle.std.proofs.lemmas.Result.{IfOk-weaker, IfErr-weaker}
use Rattle.bootkeep_c.specs.declared.failure.Failure.TheVariants.{Memory}
use Rattle.bootkeep_c.specs.declared.wanted_run.WantedRun.TheVariants as wanted
use Rattle.bootkeep_c.specs.Sessions.{IsBegun, IsBegunBy, IsBeginFailure, IsUnbegunBy}
use Rattle.bootkeep_c.proofs.session_begin.begun_by.Goals as goal

pub returns-clause-begun : goal.returns-clause-begun
returns-clause-begun c =
    let read = c.args.read in
    let events = c.in_ok-events.events in
    IfOk-weaker c.begun.result
    (λ session. IsBegun read.machine.now read.start.now read.set.now read.journal.now (wanted.Frames events) session.value)
    (λ session. IsBegunBy read.machine.now read.start.now read.set.now read.journal.now c.args.stream.now session.value)
    (λ session begun. (events, c.in_ok-events.ensures.found, begun)) c.begun.ensures.begun

pub returns-clause-fault : goal.returns-clause-fault
returns-clause-fault c =
    let read = c.args.read in
    IfErr-weaker c.begun.result
    (λ failed. failed ≢ Memory → IsBeginFailure read.machine.now read.start.now read.set.now read.journal.now failed)
    (λ failed. failed ≢ Memory → IsUnbegunBy read.machine.now read.start.now read.set.now read.journal.now c.args.stream.now failed)
    (λ failed why other. inr (c.in_ok-events.events.items, c.in_ok-events.ensures.found, why other)) c.begun.ensures.fault
