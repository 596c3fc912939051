use Rattle.std.proofs.Common.{refl}
use Rattle.profile_files.specs.Entries.{IsEntry}
use Rattle.profile_files.proofs.Lists.{each_taken, each_done}
use Rattle.profile_files.proofs.document.entries_in.Goals as goal

pub loop-item-preserved : goal.loop-item-preserved
loop-item-preserved c =
    each_taken IsEntry c.deref-item-items.result.now c.loop-item.item-index c.item-item.result c.loop-item.entries.items _ c.in_ok-entry_of.field-0
    c.loop-item.invariant c.loop-item-test.true c.item-item.is c.in_ok-entry_of.ensures c.in_ok-push.ensures.items

pub returns : goal.returns
returns c =
    let done = each_done IsEntry c.deref-item-items.result.now c.in-List.items.items c.loop-item.item-index c.loop-item.entries.items
    c.loop-item.invariant c.loop-item-test.false c.deref-item-items.ensures.value in
    (c.in-List.items.items, (c.in-List.field-0, c.in-List.items, c.in-List.is, refl), done)
