-- So far those that are taken back are of what the iterator gave.
use Rattle.std.proofs.Common.{◌≡◌, map}
use Rattle.boot_journal.specs.Changes.{undone}
use Rattle.boot_journal.proofs.journal.taken_back.Given as goal

abbrev pub invariant-loop-change : goal.invariant-loop-change
invariant-loop-change l = l.back.items ≡ map undone l.yielded
