use Rattle.boot_requests.proofs.Frames.Events.{is_seen}
use Rattle.boot_requests.proofs.laws.each_event_is_seen.Goals as goal

pub returns : goal.returns
returns c = is_seen c.bytes_spell_a_request_or_have_a_fault.ensures
