use Rattle.bootkeep_c.specs.Records.{IsRecordFailure, TellsPlaces}
use Rattle.bootkeep_c.proofs.Answering.{tells_value}
use Rattle.bootkeep_c.proofs.record_places.bootkeep_record_parts.Goals as goal

pub returns-clause-parts : goal.returns-clause-parts
returns-clause-parts c = λ enough.
    let given = c.args in
    tells_value (TellsPlaces given.bytes.now given.parts.now.size) (IsRecordFailure given.bytes.now) c.places_in.result c.tell.result
    given.parts.now c.tell.new.to given.refusal.now c.tell.new.refusal
    c.places_in.ensures.found c.places_in.ensures.fault c.tell.ensures.told c.tell.ensures.fault
