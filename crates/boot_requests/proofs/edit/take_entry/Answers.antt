use Rattle.std.proofs.Common.{◌<◌, ◌^◌, arith}
use Rattle.boot_requests.proofs.Variables.Edits.{entry_taken}
use Rattle.boot_requests.proofs.edit.take_entry.Goals as goal

pub returns : goal.returns
returns c = λ vars m h.
    let fits : c.args.number < 2 ^ 16 = omega (arith, c.ranges.number.fits) in
    entry_taken m _ _ c.args.number fits (c.in_ok-remove_entry.ensures.removed vars) h
