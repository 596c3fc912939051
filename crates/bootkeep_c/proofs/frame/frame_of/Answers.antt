use Rattle.std.proofs.Common.{◌≡◌}
use Rattle.std.proofs.lemmas.Result.{err_from_is_err_and}
use Rattle.boot_requests.specs.declared.fault.FrameFault.TheVariants as fault
use Rattle.bootkeep_c.proofs.FramesMade.{no_frame}
use Rattle.bootkeep_c.proofs.frame.frame_of.Goals as goal

pub returns-in_err-write_frame-clause-fault : goal.returns-in_err-write_frame-clause-fault
returns-in_err-write_frame-clause-fault c =
    let p = err_from_is_err_and c.from_residual-in_err-write_frame.result c.from_residual-in_err-write_frame.ensures.1 in
    let asked = c.args in
    let told = c.in_err-write_frame in
    let why = told.field-0.0 in
    rw (p.1, p.2) (no_frame asked.number asked.kind asked.entry asked.option.now asked.order.now c.in-Some.what c.in_ok-request.request
    why c.in-Some.ensures.found c.in_ok-request.ensures.asks told.ensures.named
    (λ (is : why ≡ fault.TooLong). told.ensures.too_long.0 cc) (λ (is : why ≡ fault.BadNumber). told.ensures.bad_number.0 cc))
