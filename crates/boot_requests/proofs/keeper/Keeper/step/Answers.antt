use Rattle.std.proofs.Common.{sym, subst}
use Rattle.boot_requests.specs.Turn.{Plain, Turn}
use Rattle.boot_requests.proofs.keeper.Keeper.step.Goals as goal

pub returns-clause-run : goal.returns-clause-run
returns-clause-run c = λ start run seen stands is.
    let law = c.a_turn_goes_on_with_the_run.ensures in
    let k = c.args.self.now in
    let reply = c.in_ok-update.reply in
    let turn = subst (λ (to : Plain). Turn k seen to reply) (sym c.in_ok-keeper.ensures) (c.in_ok-update.ensures.turn seen is) in
    (law.state k c.in_ok-keeper.keeper start run seen reply stands turn, law.reply k c.in_ok-keeper.keeper start run seen reply stands turn)
