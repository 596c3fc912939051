use Rattle.std.proofs.lemmas.Result.{err_from_is_err_and}
use Rattle.boot_requests.proofs.Frames.Readings.{payload_fault_is}
use Rattle.boot_requests.proofs.reader.read_parts.Goals as goal

pub returns-in_err-request-clause-fault : goal.returns-in_err-request-clause-fault
returns-in_err-request-clause-fault c =
    let frame = c.in_ok-frame.frame in
    let p = err_from_is_err_and c.from_residual-in_err-request.result c.from_residual-in_err-request.ensures.1 in
    rw (p.1, p.2) (payload_fault_is c.args.bytes.now frame.number frame.kind frame.payload.now c.in_err-request.field-0.0 c.in_ok-frame.ensures.found
    c.in_err-request.ensures.fault)
