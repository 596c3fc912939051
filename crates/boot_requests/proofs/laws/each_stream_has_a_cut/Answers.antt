use Rattle.boot_requests.proofs.Streams.Cuts.{each_cut}
use Rattle.boot_requests.proofs.laws.each_stream_has_a_cut.Goals as goal

pub returns : goal.returns
returns c = each_cut
