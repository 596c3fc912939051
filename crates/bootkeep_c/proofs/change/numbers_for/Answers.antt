use Rattle.bootkeep_c.proofs.change.numbers_for.Goals as goal

pub returns : goal.returns
returns c = λ boot. record { variable = c.variable_number.ensures boot; kind = c.change_number.ensures }
