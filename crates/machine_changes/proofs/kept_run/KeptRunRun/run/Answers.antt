-- What isn't prepared is a change that the run leads to.
use Rattle.std.proofs.Common.{◌≢◌, []}
use Rattle.uefi_vars.specs.BootChange.{changes_from}
use Rattle.machine_changes.specs.KeptFault.{LeadsToChange}
use Rattle.machine_changes.proofs.KeptFaults.{unprepared_so}
use Rattle.machine_changes.proofs.kept_run.KeptRunRun.run.Goals as goal

pub returns-in-Ok-clause-refused : goal.returns-in-Ok-clause-refused
returns-in-Ok-clause-refused g c =
    let change = c.args.self.change.now in
    let leads = g.W.Wanted.leads change.wanted.now change.seen.now in
    let from = c.args.vars.now in
    let led = c.in-Ok.field-0 in
    unprepared_so (g.W.Wanted.refuses change.wanted.now change.seen.now from) (changes_from from led.kept ≢ []) (LeadsToChange leads from)
    (λ some. (led.kept, led.answered.answer, c.in-Ok.ensures.done, some))
    c.in-Err-prepare.error c.in-Err-prepare.ensures
