use Rattle.std.proofs.Common.{◌≡◌, map}
use Rattle.boot_requests.specs.declared.event.Event.TheVariants as event
use Rattle.boot_requests.proofs.stream.deliveries.Given as goal

abbrev pub invariant-loop-frame : goal.invariant-loop-frame
invariant-loop-frame l = record {
  left : l.events.items ≡ map (λ frame. event.Deliver frame) l.yielded;
}
