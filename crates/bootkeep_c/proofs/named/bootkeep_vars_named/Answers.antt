use Rattle.bootkeep_c.specs.Sets.{IsPlanFailure}
use Rattle.bootkeep_c.specs.Named.{AreNamedIn}
use Rattle.bootkeep_c.proofs.Answering.{answers}
use Rattle.bootkeep_c.proofs.named.bootkeep_vars_named.Goals as goal

pub returns-clause-answers : goal.returns-clause-answers
returns-clause-answers c = λ same.
    answers (λ named. named.items) (AreNamedIn c.args.set.now) (IsPlanFailure c.args.set.now) c.named_in-found.result
    c.answer.result c.args.named.now c.answer.new.out
    c.args.len.now c.answer.new.len c.args.refusal.now c.answer.new.refusal c.named_in-found.ensures.found c.named_in-found.ensures.fault c.answer.ensures.given
    c.answer.ensures.told
