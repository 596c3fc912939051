use Rattle.boot_requests.proofs.EventLists.Streams.{no_stream}
use Rattle.boot_requests.proofs.laws.a_fault_leaves_no_stream.Goals as goal

pub returns : goal.returns
returns c = no_stream
