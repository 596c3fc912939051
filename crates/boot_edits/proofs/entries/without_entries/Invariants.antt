use Rattle.std.proofs.Common.{ℕ, List}
use Rattle.std.specs.FinMap.{empty}
use Rattle.uefi_vars.specs.Iter.{variables_left}
use Rattle.boot_edits.specs.Steps.{Tells, IsNameOf}
use Rattle.boot_edits.proofs.Taken.{IsGoing}
use Rattle.boot_edits.proofs.entries.without_entries.Given as goal

-- the names of those entries are skipped
abbrev pub invariant-loop-name : goal.invariant-loop-name
invariant-loop-name l = (numbers : List ℕ) → Tells l.listed numbers → IsGoing (IsNameOf numbers) empty l.vars (variables_left l.name-iterator) l.others
