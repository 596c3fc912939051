use Rattle.bootkeep_c.specs.Sets.{IsSetFailure}
use Rattle.bootkeep_c.specs.Entries.{IsFreeIn}
use Rattle.bootkeep_c.proofs.Answering.{tells_value}
use Rattle.bootkeep_c.proofs.entry.bootkeep_vars_lowest_free.Goals as goal

pub returns : goal.returns
returns c =
    tells_value (IsFreeIn c.args.set.now) (IsSetFailure c.args.set.now) c.free_in.result c.tell.result c.args.number.now
    c.tell.new.to c.args.refusal.now
    c.tell.new.refusal c.free_in.ensures.found c.free_in.ensures.fault c.tell.ensures.told c.tell.ensures.fault
