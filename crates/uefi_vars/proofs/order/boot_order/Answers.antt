use Rattle.std.proofs.Common.{Err, ap, ◌∙◌}
use Rattle.uefi_vars.proofs.order.boot_order.Goals as goal

pub returns-in_err-bytes-clause-only : goal.returns-in_err-bytes-clause-only
returns-in_err-bytes-clause-only c = λ order has. absurd (c.a_bad_order_gives_no_order.ensures c.args.vars.now order
    (c.order_bytes.ensures.bad_order.0 (c.in_err-bytes.was ∙ ap Err c.in_err-bytes.ensures.named)) has)

pub returns-clause-found : goal.returns-clause-found
returns-clause-found c = rw c.in_ok-read_units.ensures c.in_ok-bytes.ensures.found

pub returns-clause-only : goal.returns-clause-only
returns-clause-only c = λ order has. c.variables_have_one_order.ensures c.args.vars.now _ order (rw c.in_ok-read_units.ensures c.in_ok-bytes.ensures.found) has
