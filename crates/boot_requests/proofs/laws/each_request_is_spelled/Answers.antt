use Rattle.std.proofs.Common.{refl}
use Rattle.boot_requests.specs.Frame.{frame_bytes}
use Rattle.boot_requests.proofs.Frames.Requests.{frame_is_bytes}
use Rattle.boot_requests.proofs.laws.each_request_is_spelled.Goals as goal

pub returns : goal.returns
returns c = λ number request below valid len. (
  frame_bytes number request,
  record { below = below; valid = valid; len = len; is = refl },
  frame_is_bytes c.units_have_two_bytes_each.ensures c.each_option_is_spelled.ensures number request valid,
)
