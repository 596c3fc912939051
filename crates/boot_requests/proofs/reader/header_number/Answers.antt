use Rattle.std.proofs.Common.{ℕ, Some, ap}
use Rattle.boot_requests.proofs.Frames.Requests.{number_in}
use Rattle.boot_requests.proofs.reader.header_number.Goals as goal

pub returns : goal.returns
returns c = λ number request spelled. ap (λ (n : ℕ). Some n) (number_in c.args.bytes.now _ number request c.in_ok-raw.ensures.found spelled)
