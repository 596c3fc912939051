use Rattle.boot_requests.proofs.Streams.Cuts.{one_cut}
use Rattle.boot_requests.proofs.laws.a_stream_has_one_cut.Goals as goal

pub returns : goal.returns
returns c = one_cut
