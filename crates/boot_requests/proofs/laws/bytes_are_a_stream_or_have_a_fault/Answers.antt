use Rattle.boot_requests.proofs.EventLists.Streams.{stream_or_fault}
use Rattle.boot_requests.proofs.laws.bytes_are_a_stream_or_have_a_fault.Goals as goal

pub returns : goal.returns
returns c = stream_or_fault
