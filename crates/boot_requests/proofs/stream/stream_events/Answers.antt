use Rattle.std.proofs.Common.{arith}
use Rattle.uefi_vars.proofs.Bytes.{recursion_from_bytes}
use Rattle.boot_requests.proofs.EventLists.Streams.{deliveries_fit, list_of, list_valid}
use Rattle.boot_requests.proofs.stream.stream_events.Goals as goal

pub offsets-requires : goal.offsets-requires
offsets-requires c =
    let cuts = c.in_ok-frames in
    rw c.deref.ensures.value (deliveries_fit c.args.stream.now cuts.frames.items cuts.fault (omega arith) cuts.ensures.cut)

pub returns-clause-list : goal.returns-clause-list
returns-clause-list c =
    let cuts = c.in_ok-frames in
    let places = rw c.deref.ensures.value at c.in_ok-places.ensures.places in
    let end = rw c.deref.ensures.value at c.in_ok-places.ensures.end in
    list_of c.args.stream.now cuts.frames.items cuts.fault c.in_ok-events.events.items c.in_ok-places.places.items c.in_ok-places.end cuts.ensures.cut
    c.in_ok-events.ensures places end

pub returns-clause-valid : goal.returns-clause-valid
returns-clause-valid c =
    let cuts = c.in_ok-frames in
    let places = rw c.deref.ensures.value at c.in_ok-places.ensures.places in
    let end = rw c.deref.ensures.value at c.in_ok-places.ensures.end in
    let list = list_of c.args.stream.now cuts.frames.items cuts.fault c.in_ok-events.events.items c.in_ok-places.places.items c.in_ok-places.end
    cuts.ensures.cut c.in_ok-events.ensures places end in
    list_valid c.args.stream.now c.in_ok-events.events.items c.in_ok-places.places.items c.in_ok-places.end cuts.fault list
    (recursion_from_bytes c.args.stream.now (λ i. omega (arith, c.type_inv.stream i)))
