use Rattle.bootkeep_c.specs.Sessions.{IsBegunWith, IsUnbegunWith}
use Rattle.bootkeep_c.proofs.Beginnings.{begins}
use Rattle.bootkeep_c.proofs.moves.bootkeep_moves_edit.Goals as goal

pub returns-clause-begins : goal.returns-clause-begins
returns-clause-begins c = λ large.
    let given = c.args in
    begins c.begun_with-begun.result (λ boxed. boxed.value)
    (IsBegunWith given.machine.now given.start.now given.set.now given.journal.now given.edit.now given.numbers.now given.option.now)
    (IsUnbegunWith given.machine.now given.start.now given.set.now given.journal.now given.edit.now given.numbers.now given.option.now)
    c.open_begun.result c.open_begun.new.moves.seal.kept given.refusal.now c.open_begun.new.refusal
    c.begun_with-begun.ensures.begun c.begun_with-begun.ensures.fault c.open_begun.ensures.opened c.open_begun.ensures.told
