use Rattle.boot_requests.proofs.WholeRuns.Orders.{same_state}
use Rattle.boot_requests.proofs.laws.the_order_of_deliveries_does_not_matter.Goals as goal

pub returns : goal.returns
returns c = λ start x y hx hy ax ay same. same_state start x y hx hy ax ay (λ n r. (same n r).0) (λ n r. (same n r).1)
