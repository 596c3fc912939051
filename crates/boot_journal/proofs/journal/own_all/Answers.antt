-- Each change is of a boot variable, so the one at the index is.
use Rattle.std.proofs.Common.{arith}
use Rattle.uefi_vars.specs.BootChange.{change_parts}
use Rattle.boot_journal.specs.Values.{IsBootChange}
use Rattle.boot_journal.proofs.KeptChanges.{each_at}
use Rattle.boot_journal.proofs.journal.own_all.Goals as goal

pub new-requires : goal.new-requires
new-requires c = each_at IsBootChange change_parts c.args.changes.now c.loop-change.change-index _ c.requires (omega (arith, c.loop-change-test.true))
