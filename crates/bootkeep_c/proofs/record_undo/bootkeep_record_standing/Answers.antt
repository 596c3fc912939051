use Rattle.bootkeep_c.specs.Records.{IsStandingIn, IsUncompared}
use Rattle.bootkeep_c.proofs.Answering.{tells_value}
use Rattle.bootkeep_c.proofs.record_undo.bootkeep_record_standing.Goals as goal

pub returns : goal.returns
returns c =
    let given = c.args in
    tells_value (IsStandingIn given.bytes.now given.set.now) (IsUncompared given.bytes.now given.set.now) c.standing_in.result c.tell.result
    given.standing.now c.tell.new.to given.refusal.now c.tell.new.refusal
    c.standing_in.ensures.found c.standing_in.ensures.fault c.tell.ensures.told c.tell.ensures.fault
