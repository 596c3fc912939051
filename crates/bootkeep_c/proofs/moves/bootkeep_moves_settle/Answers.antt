use Rattle.bootkeep_c.specs.declared.wanted_run.WantedRun.TheVariants as wanted
use Rattle.bootkeep_c.specs.Sessions.{IsBegun, IsBeginFailure}
use Rattle.bootkeep_c.proofs.Beginnings.{begins}
use Rattle.bootkeep_c.proofs.moves.bootkeep_moves_settle.Goals as goal

pub returns-clause-begins : goal.returns-clause-begins
returns-clause-begins c =
    let given = c.args in
    begins c.begun-begun.result (λ boxed. boxed.value)
    (IsBegun given.machine.now given.start.now given.set.now given.journal.now wanted.Nothing)
    (IsBeginFailure given.machine.now given.start.now given.set.now given.journal.now)
    c.open_begun.result c.open_begun.new.moves.seal.kept given.refusal.now c.open_begun.new.refusal
    c.begun-begun.ensures.begun c.begun-begun.ensures.fault c.open_begun.ensures.opened c.open_begun.ensures.told
