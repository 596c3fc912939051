use Rattle.std.proofs.Common.{◌≡◌, take}
use Rattle.boot_requests.proofs.window.copy_slots.Given as goal

abbrev pub invariant-loop-slot : goal.invariant-loop-slot
invariant-loop-slot l = l.copy.items ≡ take l.slot-index l.slots
