use Rattle.std.proofs.Common.{ap, sym, ◌∙◌}
use Rattle.std.specs.Cmp.Lexicographic.{pointwise}
use Rattle.std.specs.FinMap.{entries}
use Rattle.std.proofs.lemmas.Bool.Decides.{Decides-at}
use Rattle.uefi_vars.specs.Equality.{pair_eq, vars_eq}
use Rattle.uefi_vars.specs.Records.{pair_of}
use Rattle.uefi_vars.proofs.Maps.{entries-vars_of}
use Rattle.uefi_vars.proofs.Same.{pointwise-map, vars_eq-Decides}
use Rattle.uefi_vars.proofs.vars.VarsPartialEq.eq.Goals as goal

pub returns : goal.returns
returns c =
    let mine = sym (entries-vars_of c.self.inside.variables.items c.self.invariant) ∙ ap entries c.self.view_is in
    let others = sym (entries-vars_of c.other.inside.variables.items c.other.invariant) ∙ ap entries c.other.view_is in
    let value = c.eq.ensures ∙ pointwise-map pair_of pair_eq c.self.inside.variables.items c.other.inside.variables.items
    ∙ (λ i. pointwise pair_eq (mine i) (others i)) in
    record {
      value = value;
      equal = Decides-at c.eq.result (vars_eq c.args.self.now c.args.other.now) value (vars_eq-Decides c.args.self.now c.args.other.now);
    }
