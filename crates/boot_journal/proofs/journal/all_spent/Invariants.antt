-- So far those that were spent are of what the iterator gave.
use Rattle.std.proofs.Common.{◌≡◌, map}
use Rattle.boot_journal.specs.Changes.{spent}
use Rattle.boot_journal.proofs.journal.all_spent.Given as goal

abbrev pub invariant-loop-change : goal.invariant-loop-change
invariant-loop-change l = l.all.items ≡ map spent l.yielded
