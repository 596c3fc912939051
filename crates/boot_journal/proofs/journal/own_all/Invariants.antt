-- So far the changes that were made are of the first ones.
use Rattle.std.proofs.Common.{◌≡◌, map, take}
use Rattle.uefi_vars.specs.BootChange.{change_parts}
use Rattle.boot_journal.proofs.journal.own_all.Given as goal

abbrev pub invariant-loop-change : goal.invariant-loop-change
invariant-loop-change l = l.owned.items ≡ map change_parts (take l.change-index l.changes)
