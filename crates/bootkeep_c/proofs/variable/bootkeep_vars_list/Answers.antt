use Rattle.bootkeep_c.specs.Sets.{IsSetFailure}
use Rattle.bootkeep_c.specs.Variables.{HasVariablesAt}
use Rattle.bootkeep_c.proofs.Answering.{answers}
use Rattle.bootkeep_c.proofs.variable.bootkeep_vars_list.Goals as goal

pub returns-clause-answers : goal.returns-clause-answers
returns-clause-answers c = λ same.
    answers (λ places. places.items) (HasVariablesAt c.args.set.now) (IsSetFailure c.args.set.now) c.variables_of-found.result
    c.answer.result c.args.variables.now c.answer.new.out
    c.args.len.now c.answer.new.len c.args.refusal.now c.answer.new.refusal c.variables_of-found.ensures.found
    c.variables_of-found.ensures.fault c.answer.ensures.given
    c.answer.ensures.told
