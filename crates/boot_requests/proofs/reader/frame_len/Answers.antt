use Rattle.std.proofs.Common.{◌+◌, ap}
use Rattle.boot_requests.specs.FrameFault.{Raw}
use Rattle.boot_requests.proofs.Frames.Raws.{same_raw}
use Rattle.boot_requests.proofs.reader.frame_len.Goals as goal

pub returns-in-Some-clause-stated : goal.returns-in-Some-clause-stated
returns-in-Some-clause-stated c = λ raw is. ap (λ (r : Raw). 12 + r.len) (same_raw c.args.bytes.now _ raw c.in-Some.ensures.found is)
