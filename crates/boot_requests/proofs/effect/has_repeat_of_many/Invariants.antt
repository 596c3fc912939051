use Rattle.std.proofs.Common.{◌≡◌, ℕ, ◌<◌, false, take, length, get_or}
use Rattle.boot_requests.specs.Apply.{is_in, repeats}
use Rattle.boot_requests.proofs.effect.has_repeat_of_many.Given as goal

abbrev pub invariant-loop-number : goal.invariant-loop-number
invariant-loop-number l = record {
  len : length l.marked.items ≡ 65536;
  marked : (k : ℕ) → k < 65536 → get_or l.marked.items k false ≡ is_in (take l.number-index l.numbers) k;
  once : repeats (take l.number-index l.numbers) ≡ false;
}
