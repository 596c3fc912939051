use Rattle.uefi_vars.proofs.NamingChanges.{AreOfFirst}
use Rattle.uefi_vars.proofs.naming.entries_only_in.Given as goal

abbrev pub invariant-loop-number : goal.invariant-loop-number
invariant-loop-number l = AreOfFirst l.vars l.numbers l.others l.number-index l.found.items
