use Rattle.boot_requests.specs.declared.event.Event.TheVariants as event
use Rattle.bootkeep_c.proofs.Stepping.{open_kept}
use Rattle.bootkeep_c.proofs.Replying.{stays_unanswered}
use Rattle.bootkeep_c.proofs.keeper_reply.bootkeep_keeper_deliver_reply.Goals as goal

pub returns-in_default : goal.returns-in_default
returns-in_default c =
    let keeper = c.args.keeper.now in
    let from = open_kept keeper.seal.kept keeper.is_open keeper.tells c.if-keeper-eq0.false in
    record { event = stays_unanswered (event.Deliver c.args.frame.now) keeper.seal.kept from.0 c.args.numbers.now c.args.len.now c.args.reply.now from.1 }
