use Rattle.std.proofs.Common.{◌≢◌, IfOk, IfErr, refl, inr}
use Rattle.std.proofs.lemmas.Result.{IfOk-weaker, IfErr-weaker}
use Rattle.bootkeep_c.specs.declared.failure.Failure.TheVariants.{Memory}
use Rattle.bootkeep_c.specs.declared.wanted_run.OwnedEdit.{OwnedEdit}
use Rattle.bootkeep_c.specs.declared.wanted_run.WantedRun.TheVariants as wanted
use Rattle.bootkeep_c.specs.Sessions.{IsBegun, IsBegunWith, IsBeginFailure, IsUnbegunWith}
use Rattle.bootkeep_c.proofs.session_begin.begun_with.Goals as goal

pub returns-clause-begun : goal.returns-clause-begun
returns-clause-begun c =
    let read = c.args.read in
    let given = c.args in
    let owned : OwnedEdit = record { asked = given.asked.now; numbers = c.in_ok-from_slice.field-0; option = c.in_ok-from_slice-2.field-0 } in
    IfOk-weaker c.begun.result
    (λ session. IsBegun read.machine.now read.start.now read.set.now read.journal.now (wanted.Edit owned) session.value)
    (λ session. IsBegunWith read.machine.now read.start.now read.set.now read.journal.now given.asked.now given.numbers.now
    given.option.now session.value)
    (λ session begun. record {
      owned = owned;
      asked_is = refl;
      numbers_are = c.in_ok-from_slice.ensures.items;
      option_is = c.in_ok-from_slice-2.ensures.items;
      edit = c.in_ok-edit_asked.field-0;
      asks = c.in_ok-edit_asked.ensures.asked;
      begun = begun;
    }) c.begun.ensures.begun

pub returns-clause-fault : goal.returns-clause-fault
returns-clause-fault c =
    let read = c.args.read in
    IfErr-weaker c.begun.result
    (λ failed. failed ≢ Memory → IsBeginFailure read.machine.now read.start.now read.set.now read.journal.now failed)
    (λ failed. failed ≢ Memory → IsUnbegunWith read.machine.now read.start.now read.set.now read.journal.now c.args.asked.now c.args.numbers.now c.args.option.now failed)
    (λ failed why other. inr (c.in_ok-edit_asked.field-0, c.in_ok-edit_asked.ensures.asked, why other)) c.begun.ensures.fault
