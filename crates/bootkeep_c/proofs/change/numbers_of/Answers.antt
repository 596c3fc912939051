use Rattle.uefi_vars.specs.BootChange.{change_parts}
use Rattle.bootkeep_c.specs.Changes.{TellsIfBoot}
use Rattle.bootkeep_c.proofs.NamesOfChanges.{each_step}
use Rattle.bootkeep_c.proofs.change.numbers_of.Goals as goal

pub loop-change-preserved : goal.loop-change-preserved
loop-change-preserved c =
    each_step change_parts TellsIfBoot c.args.changes.now c.loop-change.told.items c.push.new.self.items
    c.loop-change.change-index _ c.numbers_for.result c.loop-change-test.true c.loop-change.invariant
    c.numbers_for.ensures c.in_ok-push.ensures.items
