use Rattle.bootkeep_c.specs.Sessions.{IsBegunBack, IsUnbegunBack}
use Rattle.bootkeep_c.proofs.Beginnings.{begins}
use Rattle.bootkeep_c.proofs.moves.bootkeep_moves_restore.Goals as goal

pub returns-clause-begins : goal.returns-clause-begins
returns-clause-begins c =
    let given = c.args in
    begins c.begun_back-begun.result (λ boxed. boxed.value)
    (IsBegunBack given.machine.now given.start.now given.set.now given.journal.now given.back.now)
    (IsUnbegunBack given.machine.now given.start.now given.set.now given.journal.now given.back.now)
    c.open_begun.result c.open_begun.new.moves.seal.kept given.refusal.now c.open_begun.new.refusal
    c.begun_back-begun.ensures.begun c.begun_back-begun.ensures.fault c.open_begun.ensures.opened c.open_begun.ensures.told
