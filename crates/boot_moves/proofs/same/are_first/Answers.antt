-- At the end all that were told are the same.
use Rattle.boot_moves.proofs.Replays.{first_told}
use Rattle.boot_moves.proofs.same.are_first.Goals as goal

pub returns : goal.returns
returns c h = first_told c.args.told.now c.args.made.now c.loop-i.i c.loop-i-test.false c.loop-i.auto.i-end c.loop-i.invariant
