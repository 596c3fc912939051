use Rattle.std.proofs.Common.{suc, ℕ, List, sym, subst}
use Rattle.value_texts.specs.Description.{IsFront, AreFronts}
use Rattle.value_texts.proofs.Descriptions.{one_more}
use Rattle.value_texts.proofs.description.units_of.Goals as goal

pub loop-first-preserved : goal.loop-first-preserved
loop-first-preserved c =
    let front = c.in_ok-rest.ensures.front in
    let n = c.loop-first.invariant.0 in
    let here = front.0 in
    let rest = c.in_ok-rest.rest.now in
    let at : IsFront c.loop-first.rest.now here rest = subst (λ (text : List ℕ). IsFront text here rest) (sym c.in-Some.ensures.cases.0) front.1 in
    let more = one_more n c.args.characters.now c.loop-first.units.items c.loop-first.rest.now here rest c.loop-first.invariant.1 at in
    (suc n, subst (λ (units : List ℕ). AreFronts (suc n) c.args.characters.now units rest) (sym front.2) more)
