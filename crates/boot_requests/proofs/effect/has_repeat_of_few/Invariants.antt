use Rattle.std.proofs.Common.{◌≡◌, false, take}
use Rattle.boot_requests.specs.Apply.{repeats}
use Rattle.boot_requests.proofs.effect.has_repeat_of_few.Given as goal

abbrev pub invariant-loop-i : goal.invariant-loop-i
invariant-loop-i l = repeats (take l.i l.numbers) ≡ false
