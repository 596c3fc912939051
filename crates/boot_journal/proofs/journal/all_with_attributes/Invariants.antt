-- So far what is kept is of the first changes.
use Rattle.std.proofs.Common.{◌≡◌, map, take}
use Rattle.std.specs.List.{AllByRecursion}
use Rattle.boot_journal.specs.JournalAttributes.{change_kept}
use Rattle.boot_journal.specs.Values.{IsBootChange}
use Rattle.boot_journal.proofs.journal.all_with_attributes.Given as goal

abbrev pub invariant-loop-change : goal.invariant-loop-change
invariant-loop-change l = record {
  value : l.kept.items ≡ map (change_kept l.there) (take l.change-index l.changes);
  valid : AllByRecursion IsBootChange l.kept.items;
}
