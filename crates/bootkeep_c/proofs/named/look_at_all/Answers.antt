use Rattle.uefi_vars.specs.Vars.{entry_of}
use Rattle.bootkeep_c.specs.Named.{TellsNamed, next_names, order_name}
use Rattle.bootkeep_c.proofs.NamedEntries.{each_after}
use Rattle.bootkeep_c.proofs.named.look_at_all.Goals as goal

pub loop-number-preserved : goal.loop-number-preserved
loop-number-preserved c = record {
  room = c.look.ensures.room;
  known = c.look.ensures.known;
  told = each_after order_name (TellsNamed (entry_of c.args.vars.now)) (next_names c.args.next) c.args.order.now
      c.loop-number.named.items c.push.new.self.items c.loop-number.number-index _ c.look.result
      c.loop-number-test.true c.loop-number.invariant.told c.look.ensures.told c.in_ok-push.ensures.items;
}
