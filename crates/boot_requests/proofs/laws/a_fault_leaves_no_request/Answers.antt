use Rattle.boot_requests.proofs.Frames.Requests.{fault_leaves_none}
use Rattle.boot_requests.proofs.laws.a_fault_leaves_no_request.Goals as goal

pub returns : goal.returns
returns c = fault_leaves_none c.units_have_two_bytes_each.ensures c.a_fault_leaves_no_option.ensures
