-- So far the copies are of the first changes.
use Rattle.std.proofs.Common.{◌≡◌, take}
use Rattle.boot_journal.proofs.journal.copy_all.Given as goal

abbrev pub invariant-loop-change : goal.invariant-loop-change
invariant-loop-change l = l.copies.items ≡ take l.change-index l.changes
