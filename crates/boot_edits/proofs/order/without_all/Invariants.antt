use Rattle.std.proofs.Common.{◌≡◌, ℕ, List, take}
use Rattle.boot_requests.specs.Apply.{without_all}
use Rattle.boot_edits.specs.Steps.{Tells}
use Rattle.boot_edits.proofs.order.without_all.Given as goal

abbrev pub invariant-loop-number : goal.invariant-loop-number
invariant-loop-number l = (numbers : List ℕ) → Tells l.listed numbers → l.others.items ≡ without_all numbers (take l.number-index l.order)
