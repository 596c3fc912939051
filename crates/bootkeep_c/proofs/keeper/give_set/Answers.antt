use Rattle.std.proofs.Common.{ℕ, List, inl, inr, refl, subst, ◌∙◌}
use Rattle.bootkeep_c.specs.Buffer.{Gives}
use Rattle.bootkeep_c.proofs.keeper.give_set.Goals as goal

pub returns-in-Ok : goal.returns-in-Ok
returns-in-Ok c = record {
  vars = c.vars.result.now;
  image = c.vars.ensures.image;
  told = inl (subst (λ (answer : List ℕ). Gives c.give.result answer c.args.out.now c.give.new.out c.give.new.len)
      (c.deref.ensures.value ∙ c.in-Ok.ensures.written) c.give.ensures);
}

pub returns-in-Err : goal.returns-in-Err
returns-in-Err c = record {
  vars = c.vars.result.now;
  image = c.vars.ensures.image;
  told = inr (refl, record { buffer = refl; told = refl });
}
