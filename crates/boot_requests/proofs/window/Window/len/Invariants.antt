use Rattle.std.proofs.Common.{◌≡◌, ◌+◌, ◌-◌, ◌≤◌}
use Rattle.std.specs.FinMap as map
use Rattle.boot_requests.specs.Slots.{waiting_in}
use Rattle.boot_requests.proofs.window.Window.len.Given as goal

abbrev pub invariant-loop-distance : goal.invariant-loop-distance
invariant-loop-distance l = record {
  below : l.count + 1 ≤ l.distance;
  count : l.count ≡ map.len (waiting_in (l.distance - 1) l.next_number l.self-inside.slots.items);
}
