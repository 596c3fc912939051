use Rattle.std.proofs.Common.{refl}
use Rattle.value_texts.proofs.description.escape_at.Goals as goal

pub returns-in-None-unit_at-clause-fault : goal.returns-in-None-unit_at-clause-fault
returns-in-None-unit_at-clause-fault c = (refl, (c.in-Some.digits.now, c.in-Some.ensures.found, c.in-None-unit_at.ensures.none refl))

pub returns-in-None-unit_at-2-clause-found : goal.returns-in-None-unit_at-2-clause-found
returns-in-None-unit_at-2-clause-found c =
    record { letter = c.in-None.ensures.none refl; digits = c.in-None-unit_at-2.ensures.none refl }
