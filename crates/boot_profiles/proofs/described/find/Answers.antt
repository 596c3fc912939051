use Rattle.std.proofs.Common.{ℕ, List, subst}
use Rattle.boot_profiles.specs.Steps.{IsFoundIn}
use Rattle.boot_profiles.proofs.Descriptions.{found_is}
use Rattle.boot_profiles.proofs.described.find.Goals as goal

pub returns : goal.returns
returns c =
    found_is c.args.vars.now c.args.description.now c.in_ok-numbers.numbers.items c.found_in.result c.in_ok-numbers.ensures
    (subst (λ (l : List ℕ). IsFoundIn l c.found_in.result) c.deref.ensures.value c.found_in.ensures)
