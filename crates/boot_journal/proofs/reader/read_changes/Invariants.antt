-- What was read, and what is left, is on the way to what `changes_at` gives; what is left gets shorter.
use Rattle.std.proofs.Common.{length}
use Rattle.std.specs.List.{AllByRecursion}
use Rattle.boot_journal.specs.Values.{IsBootChange}
use Rattle.boot_journal.specs.Reader.{changes_at}
use Rattle.boot_journal.proofs.ChangeLoop.{IsOnTheWay}
use Rattle.boot_journal.proofs.reader.read_changes.Given as goal

abbrev pub invariant-loop-rest : goal.invariant-loop-rest
invariant-loop-rest l = record {
  read : IsOnTheWay l.end l.rest l.changes.items (changes_at l.end l.bytes);
  valid : AllByRecursion IsBootChange l.changes.items;
}

abbrev pub decreases-loop-rest : goal.decreases-loop-rest
decreases-loop-rest l = length l.rest
