use Rattle.std.proofs.Common.{arith, length, drop, ◌-◌, ◌≤◌, sym, ap, subst, ◌∙◌}
use Rattle.std.proofs.lemmas.List.{take_all, length-drop}
use Rattle.std.proofs.lemmas.Result.{err_from_is_err_and}
use Rattle.uefi_vars.specs.Records.{pairs_of}
use Rattle.uefi_vars.specs.Reader.{HasRecordsFault}
use Rattle.uefi_vars.proofs.Readings.{none_read, one_read, data_fault, record_stands}
use Rattle.uefi_vars.proofs.reader.read_variables.Goals as goal

pub loop-bytes-init : goal.loop-bytes-init
loop-bytes-init c =
    let bytes = c.as_slice-bytes.result.now in
    let rest = drop c.args.start bytes in
    none_read rest c.new-variables.result.items _ c.new-variables.ensures.items
    (take_all (length bytes - c.args.start) rest (omega (arith, length-drop c.args.start bytes)))

pub returns-in_err-data-clause-fault : goal.returns-in_err-data-clause-fault
returns-in_err-data-clause-fault c =
    let above = rw c.deref.ensures.value at (c.rises.ensures.0 c.if-not-rises.false) in
    let start = c.args.start in
    let bytes = c.as_slice-bytes.result.now in
    let within = subst (λ l. start ≤ length l) (sym c.as_slice-bytes.ensures) c.requires in
    let p = err_from_is_err_and c.from_residual-in_err-data.result c.from_residual-in_err-data.ensures.1 in
    rw (p.1, p.2) (λ _. subst (λ l. HasRecordsFault (drop start l) start c.in_err-data.field-0.0) c.as_slice-bytes.ensures
    (data_fault bytes start (pairs_of c.loop-bytes.variables.items) c.loop-bytes.rest.now c.in_ok-name.name.now
    c.in_ok-name.behind.now c.in_err-data.field-0.0 within c.loop-bytes.invariant c.in_ok-name.ensures.found above
    c.in_err-data.ensures.fault))

pub shared_variable-requires-clause-record : goal.shared_variable-requires-clause-record
shared_variable-requires-clause-record c =
    let bytes = c.as_slice-bytes.result.now in
    let rest = c.loop-bytes.rest.now in
    let within = subst (λ l. c.args.start ≤ length l) (sym c.as_slice-bytes.ensures) c.requires in
    let stands = record_stands bytes c.args.start (pairs_of c.loop-bytes.variables.items) rest c.in_ok-name.name.now
    c.in_ok-name.behind.now c.in_ok-data.data.now c.in_ok-data.behind.now within c.loop-bytes.invariant
    c.in_ok-name.ensures.found c.in_ok-data.ensures.found in
    (c.in_ok-data.behind.now, ap (drop (length bytes - length rest)) (sym c.as_slice-bytes.ensures) ∙ stands)

pub loop-bytes-preserved : goal.loop-bytes-preserved
loop-bytes-preserved c =
    let above = rw c.deref.ensures.value at (c.rises.ensures.0 c.if-not-rises.false) in
    one_read (drop c.args.start c.as_slice-bytes.result.now) c.loop-bytes.variables.items c.push.new.self.items
    c.in_ok-shared_variable.field-0 c.loop-bytes.rest.now c.in_ok-name.name.now c.in_ok-name.behind.now
    c.in_ok-data.data.now c.in_ok-data.behind.now
    c.loop-bytes.invariant c.in_ok-push.ensures.items c.in_ok-shared_variable.ensures c.in_ok-name.ensures.found above c.in_ok-data.ensures.found
