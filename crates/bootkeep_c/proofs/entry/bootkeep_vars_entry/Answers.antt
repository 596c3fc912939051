use Rattle.bootkeep_c.specs.Sets.{IsSetFailure}
use Rattle.bootkeep_c.specs.Entries.{IsStateIn}
use Rattle.bootkeep_c.proofs.Answering.{tells_value}
use Rattle.bootkeep_c.proofs.entry.bootkeep_vars_entry.Goals as goal

pub returns : goal.returns
returns c =
    tells_value (IsStateIn c.args.set.now c.args.number) (IsSetFailure c.args.set.now) c.state_in.result c.tell.result
    c.args.state.now c.tell.new.to c.args.refusal.now
    c.tell.new.refusal c.state_in.ensures.found c.state_in.ensures.fault c.tell.ensures.told c.tell.ensures.fault
