use Rattle.std.proofs.Common.{refl, inl, inr}
use Rattle.boot_edits.proofs.addition.present.Goals as goal

pub returns-then-addition-clause-there : goal.returns-then-addition-clause-there
returns-then-addition-clause-there c =
    let found = c.in_ok-option.ensures.found in
    record { option = found.0; spelled = found.1; new = inl c.if-addition.true }

pub returns-in-Some-clause-there : goal.returns-in-Some-clause-there
returns-in-Some-clause-there c =
    let found = c.in_ok-option.ensures.found in
    record { option = found.0; spelled = found.1; once = c.if-addition.false; there = c.in-Some.ensures.found found.0 found.1.0 found.2 }

pub returns-in-None-clause-there : goal.returns-in-None-clause-there
returns-in-None-clause-there c =
    let found = c.in_ok-option.ensures.found in
    record { option = found.0; spelled = found.1; new = inr (λ number same. c.in-None.ensures.only found.0 found.1.0 found.2 number same refl) }
