-- No field is at the start.
use Rattle.std.proofs.Common.{refl}
use Rattle.change_records.proofs.owner.owner_of.Goals as goal

pub returns-in-None : goal.returns-in-None
returns-in-None c = c.in-None.ensures.none refl
