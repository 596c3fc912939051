use Rattle.bootkeep_c.specs.Sessions.{IsBegunBy, IsUnbegunBy}
use Rattle.bootkeep_c.proofs.Beginnings.{begins}
use Rattle.bootkeep_c.proofs.moves.bootkeep_moves_requests.Goals as goal

pub returns-clause-begins : goal.returns-clause-begins
returns-clause-begins c =
    let given = c.args in
    begins c.begun_by-begun.result (λ boxed. boxed.value)
    (IsBegunBy given.machine.now given.start.now given.set.now given.journal.now given.stream.now)
    (IsUnbegunBy given.machine.now given.start.now given.set.now given.journal.now given.stream.now)
    c.open_begun.result c.open_begun.new.moves.seal.kept given.refusal.now c.open_begun.new.refusal
    c.begun_by-begun.ensures.begun c.begun_by-begun.ensures.fault c.open_begun.ensures.opened c.open_begun.ensures.told
