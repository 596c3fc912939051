use Rattle.bootkeep_c.specs.Changes.{AreChangesBetween, IsPairFailure}
use Rattle.bootkeep_c.proofs.Answering.{answers}
use Rattle.bootkeep_c.proofs.change.bootkeep_vars_changes.Goals as goal

pub returns-clause-answers : goal.returns-clause-answers
returns-clause-answers c = λ same.
    answers (λ changes. changes.items) (AreChangesBetween c.args.from.now c.args.to.now)
    (IsPairFailure c.args.from.now c.args.to.now) c.changes_between-found.result c.answer.result
    c.args.changes.now c.answer.new.out c.args.len.now c.answer.new.len c.args.refusal.now c.answer.new.refusal c.changes_between-found.ensures.found
    c.changes_between-found.ensures.fault c.answer.ensures.given c.answer.ensures.told
