use Rattle.std.proofs.Common.{length}
use Rattle.boot_requests.specs.Request.{payload_of}
use Rattle.boot_requests.proofs.Frames.TwoBytes.{counted, order_len}
use Rattle.boot_requests.proofs.writer.payload_len.Goals as goal

pub returns-in-Order : goal.returns-in-Order
returns-in-Order c =
    counted c.checked_mul.result _ (length (payload_of c.args.request.now))
    (order_len c.units_have_two_bytes_each.ensures c.args.request.now c.in-Order.order c.numbers.result.now c.in-Order.is c.numbers.ensures.numbers)
    c.checked_mul.ensures
