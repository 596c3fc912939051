-- Those that are refused are taken out.
use Rattle.std.proofs.Common.{ℕ, List, subst}
use Rattle.place_edits.specs.Takeable.{IsWithout}
use Rattle.place_edits.proofs.takeable.taken.Goals as goal

pub returns : goal.returns
returns c = record {
  refused = c.in_ok-missing.ensures;
  rest = subst (λ (entries : List ℕ). IsWithout entries c.args.wanted c.in_ok-vars.vars) c.deref.ensures.value
      c.in_ok-vars.ensures;
}
