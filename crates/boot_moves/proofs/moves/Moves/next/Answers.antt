use Rattle.std.proofs.Common.{sym}
use Rattle.boot_moves.proofs.moves.Moves.next.Goals as goal

pub returns-clause-ended : goal.returns-clause-ended
returns-clause-ended g c = rw (sym c.self.view_is) c.next.ensures.ended
