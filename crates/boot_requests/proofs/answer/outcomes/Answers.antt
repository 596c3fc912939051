use Rattle.std.proofs.Common.{sym}
use Rattle.boot_requests.proofs.Answering.Followers.{outcomes_last}
use Rattle.boot_requests.proofs.answer.outcomes.Goals as goal

pub loop-number-preserved : goal.loop-number-preserved
loop-number-preserved c =
    let loop = c.loop-number in
    rw c.in_ok-push.ensures.items
    (outcomes_last c.args.keeper.now.state c.args.first loop.number loop.outcomes.items c.in-Some.outcome loop.invariant (sym c.in-Some.ensures))
