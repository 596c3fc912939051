use Rattle.std.proofs.Common.{refl}
use Rattle.std.proofs.lemmas.Bool.{false≢true}
use Rattle.boot_trials.proofs.outcome.is_first.Goals as goal

-- a bad order has no first number
pub returns-in-Err-BadOrder : goal.returns-in-Err-BadOrder
returns-in-Err-BadOrder c =
    let bad = rw c.in-Err-BadOrder.field-0-is at c.in-Err-BadOrder.ensures.bad_order in
    (λ no. absurd (false≢true no), λ first. absurd (c.a_bad_order_gives_no_order.ensures c.args.vars.now _ (bad.0 refl) first.1))
