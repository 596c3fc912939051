use Rattle.std.proofs.Common.{length, ap, arith}
use Rattle.boot_requests.proofs.EventLists.Streams.{offsets_more, offsets_fit}
use Rattle.boot_requests.proofs.stream.offsets.Goals as goal

pub overflow_add-end : goal.overflow_add-end
overflow_add-end c =
    let loop = c.loop-frame in
    let fits = offsets_fit c.args.frames.now loop.frame-index c.frame-item.result c.loop-frame-test.true c.frame-item.is in
    omega (arith, fits, c.requires, loop.invariant.end_is, ap length c.bytes.ensures.bytes)

pub loop-frame-preserved : goal.loop-frame-preserved
loop-frame-preserved c =
    let loop = c.loop-frame in
    offsets_more c.args.frames.now loop.frame-index c.frame-item.result loop.places.items c.push.new.self.items loop.end _ c.loop-frame-test.true
    c.frame-item.is loop.invariant
    c.in_ok-push.ensures.items (omega (arith, ap length c.bytes.ensures.bytes))
