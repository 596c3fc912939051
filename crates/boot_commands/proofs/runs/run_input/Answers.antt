use Rattle.std.proofs.Common.{◌≤◌, length, Err, ap, arith}
use Rattle.std.proofs.lemmas.Result.{err_from_is_err_and}
use Rattle.boot_commands.specs.declared.fault.ScriptRunFault.{ScriptRunFault}
use Rattle.boot_commands.proofs.Running.{keeps, of_reading, of_fault, of_answer}
use Rattle.boot_commands.proofs.runs.run_input.Goals as goal

pub returns-in_err-bytes-clause-run : goal.returns-in_err-bytes-clause-run
returns-in_err-bytes-clause-run g c =
    let told = c.in_err-bytes.ensures in
    let p = err_from_is_err_and c.from_residual.result c.from_residual.ensures.1 in
    rw (p.1, p.2) (of_reading c.args.format c.args.vars _ _ _ _ c.in_err-bytes.field-0.0 (λ is. told.too_much (ap (λ (f : ScriptRunFault). Err f) is))
    (λ is. told.one_past (ap (λ (f : ScriptRunFault). Err f) is)) told.taken told.fault (keeps _))

pub returns-in_err-events-clause-run : goal.returns-in_err-events-clause-run
returns-in_err-events-clause-run g c =
    let len : length c.in_ok-bytes.bytes.items ≤ 67108864 = omega (arith, c.in_ok-bytes.bytes.ok.0, c.in_ok-bytes.ensures.limit) in
    let own = rw c.deref.ensures.value at c.in_err-events.ensures.fault in
    let p = err_from_is_err_and c.from_residual-in_err-events.result c.from_residual-in_err-events.ensures.1 in
    rw p.1 (of_fault c.args.format c.args.vars _ _ _ _ c.in_ok-bytes.bytes.items c.in_ok-bytes.ensures.all len c.in_err-events.field-0.0 p.0 p.2 own
    c.in_err-events.ensures.rest (keeps _))

pub returns-clause-run : goal.returns-clause-run
returns-clause-run g c =
    let len : length c.in_ok-bytes.bytes.items ≤ 67108864 = omega (arith, c.in_ok-bytes.bytes.ok.0, c.in_ok-bytes.ensures.limit) in
    let read = rw c.deref.ensures.value at c.in_ok-events.ensures.found in
    let answered = rw c.deref-2.ensures.value at c.answer.ensures.answer in
    of_answer c.args.format c.args.vars _ _ _ _ c.in_ok-bytes.bytes.items c.in_ok-bytes.ensures.all len c.in_ok-events.events.items read
    c.what_opens_has_no_fault.ensures c.answer.result answered
