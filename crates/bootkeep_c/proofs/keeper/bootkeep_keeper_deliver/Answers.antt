use Rattle.boot_requests.specs.declared.event.Event.TheVariants as event
use Rattle.bootkeep_c.proofs.Stepping.{open_kept, stays}
use Rattle.bootkeep_c.proofs.keeper.bootkeep_keeper_deliver.Goals as goal

pub returns-in_default : goal.returns-in_default
returns-in_default c =
    let keeper = c.args.keeper.now in
    let from = open_kept keeper.seal.kept keeper.is_open keeper.tells c.if-keeper-eq0.false in
    record { event = stays (event.Deliver c.args.frame.now) keeper.seal.kept from.0 c.args.out.now c.args.len.now from.1 }
