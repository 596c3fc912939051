use Rattle.std.proofs.Common.{arith, length-take}
use Rattle.std.proofs.lemmas.Result.{err_from_is_err_and}
use Rattle.boot_commands.proofs.Transfers.{takes_more}
use Rattle.boot_commands.proofs.transfer.fill.Goals as goal

pub returns-in_err-read_some-clause-taken : goal.returns-in_err-read_some-clause-taken
returns-in_err-read_some-clause-taken g c =
    let p = err_from_is_err_and c.from_residual.result c.from_residual.ensures.1 in
    rw p.1 (takes_more _ _ _ c.loop-bytes.bytes.items _ _ c.loop-bytes.invariant.0 c.in_err-read_some.ensures.taken
    (omega (arith, length-take c.min-room.result c.loop-bytes.buffer, c.min-room.ensures, c.loop-bytes.invariant.2)))
