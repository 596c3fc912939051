use Rattle.std.proofs.Common.{sym}
use Rattle.bootkeep_c.proofs.moves.bootkeep_moves_next.Goals as goal

pub returns-clause-next : goal.returns-clause-next
returns-clause-next c = rw (sym c.in-Some.ensures.taken) (
  c.say_next-status.new.session,
  c.opened.ensures,
  rw c.as_mut.ensures.value at c.say_next-status.ensures,
)
