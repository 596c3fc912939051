use Rattle.boot_requests.proofs.Answering.Happening.{happens}
use Rattle.boot_commands.proofs.runs.answers_to.Goals as goal

pub returns-clause-done : goal.returns-clause-done
returns-clause-done c =
    let opened = c.in_ok-keeper.ensures.opened in
    let told = c.in_ok-keeper-2.ensures.answered in
    let left = c.into_vars.ensures in
    let happened = happens c.args.vars c.into_vars.result c.args.events.now c.in_ok-keeper.keeper c.in_ok-keeper-2.keeper told.0
    opened.0 opened.1 told.1 left.valid left.image in
    (told.0, happened, told.2)
