use Rattle.boot_requests.proofs.Frames.Events.{seen_as_one}
use Rattle.boot_requests.proofs.laws.an_event_is_seen_as_one.Goals as goal

pub returns : goal.returns
returns c = seen_as_one c.bytes_spell_one_request.ensures c.a_fault_leaves_no_request.ensures c.bytes_have_one_first_fault.ensures
