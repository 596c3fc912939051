use Rattle.boot_requests.proofs.Frames.Raws.{same_first_fault}
use Rattle.boot_requests.proofs.laws.bytes_have_one_first_fault.Goals as goal

pub returns : goal.returns
returns c = same_first_fault c.bytes_have_one_first_fault.ensures
