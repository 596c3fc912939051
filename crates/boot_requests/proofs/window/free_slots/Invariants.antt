use Rattle.std.proofs.Common.{◌≡◌, None, replicate}
use Rattle.boot_requests.proofs.window.free_slots.Given as goal

abbrev pub invariant-loop-index : goal.invariant-loop-index
invariant-loop-index l = l.slots.items ≡ replicate l._index None
