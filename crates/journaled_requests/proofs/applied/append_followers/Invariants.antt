use Rattle.std.proofs.Common.{◌≡◌, ◌++◌, ◌-◌}
use Rattle.journaled_requests.specs.Applied.{followers_of}
use Rattle.journaled_requests.proofs.applied.append_followers.Given as goal

abbrev pub invariant-loop-number : goal.invariant-loop-number
invariant-loop-number l = l.applied.items ++ followers_of l.waiting l.number (l.next - l.number) ≡ l.fn.applied.items
    ++ followers_of l.waiting l.first (l.next - l.first)
