use Rattle.std.proofs.Common.{◌≡◌, not, is_some, filter, take}
use Rattle.uefi_vars.specs.Vars.{entry_of}
use Rattle.entry_checks.proofs.named.stale_among.Given as goal

abbrev pub invariant-loop-number : goal.invariant-loop-number
invariant-loop-number l = l.stale.items ≡ filter (λ number. not (is_some (entry_of l.vars number))) (take l.number-index l.numbers)
