use Rattle.std.proofs.Common.{sym}
use Rattle.bootkeep_c.proofs.moves.bootkeep_moves_tell.Goals as goal

pub returns-clause-heard : goal.returns-clause-heard
returns-clause-heard c = rw (sym c.in-Some.ensures.taken) (
  c.tell-status.new.self,
  c.opened.ensures,
  rw (c.as_mut.ensures.value, c.became.ensures) at c.tell-status.ensures,
)
