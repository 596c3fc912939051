use Rattle.boot_requests.proofs.Variables.Images.{opened_has_no_fault}
use Rattle.boot_requests.proofs.laws.what_opens_has_no_fault.Goals as goal

pub returns : goal.returns
returns c = opened_has_no_fault c.a_bad_order_gives_no_order.ensures c.a_bad_next_gives_no_next.ensures
