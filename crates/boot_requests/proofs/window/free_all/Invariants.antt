use Rattle.std.proofs.Common.{◌≡◌, length, take, replicate, None}
use Rattle.boot_requests.proofs.window.free_all.Given as goal

abbrev pub invariant-loop-place : goal.invariant-loop-place
invariant-loop-place l = record {
  len : length l.slots ≡ length l.fn.slots;
  free : take l.place l.slots ≡ replicate l.place None;
}
