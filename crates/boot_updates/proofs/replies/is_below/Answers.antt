use Rattle.std.proofs.Common.{◌∙◌, sym, arith}
use Rattle.std.proofs.lemmas.Bool.Decides.{nat_tests}
use Rattle.boot_updates.proofs.Below.{below}
use Rattle.boot_updates.proofs.replies.is_below.Goals as goal

pub returns-in-Some-clause-applied : goal.returns-in-Some-clause-applied
returns-in-Some-clause-applied c = λ event seen is same less.
    below c.in-Some.number c.args.next event seen is (sym c.in-Some.is ∙ same) (grind (arith, nat_tests, less))
