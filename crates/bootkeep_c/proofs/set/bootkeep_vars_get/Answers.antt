use Rattle.std.proofs.Common.{inl, inr, arith}
use Rattle.bootkeep_c.proofs.Telling.{given, not_absent}
use Rattle.bootkeep_c.proofs.set.bootkeep_vars_get.Goals as goal

pub returns-in-Ok-clause-found : goal.returns-in-Ok-clause-found
returns-in-Ok-clause-found c = λ done. elim c.give_value.ensures [
  | inl is ↦ (
    c.in-Ok.vars,
    is.0,
    c.in-Ok.ensures.found,
    is.1,
    given c.give_value.result is.0 c.args.out.now c.give_value.new.out c.give_value.new.len is.2 done,
  )
  | inr none ↦ absurd (omega (arith, none.1, done))
]

pub returns-in-Ok-clause-missing : goal.returns-in-Ok-clause-missing
returns-in-Ok-clause-missing c = λ absent. elim c.give_value.ensures [
  | inl is ↦ absurd (not_absent c.give_value.result is.0 c.args.out.now c.give_value.new.out c.give_value.new.len is.2 absent)
  | inr none ↦ (c.in-Ok.vars, c.in-Ok.ensures.found, none.0)
]
