use Rattle.std.proofs.Common.{◌≡◌, ◌++◌, take}
use Rattle.boot_requests.specs.Apply.{without}
use Rattle.boot_requests.proofs.edit.append_others.Given as goal

abbrev pub invariant-loop-other : goal.invariant-loop-other
invariant-loop-other l = record {
  left : l.order.items ≡ l.initial.order.items ++ without (take l.other-index l.numbers) l.number;
}
