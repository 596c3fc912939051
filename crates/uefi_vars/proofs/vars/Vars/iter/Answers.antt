use Rattle.std.proofs.Common.{ap, sym, subst, ◌∙◌}
use Rattle.std.specs.FinMap.{entries}
use Rattle.uefi_vars.specs.Vars.{IsVars}
use Rattle.uefi_vars.specs.Records.{pairs_of}
use Rattle.uefi_vars.proofs.Maps.{entries-vars_of, IsVars-vars_of}
use Rattle.uefi_vars.proofs.vars.Vars.iter.Goals as goal

pub returns : goal.returns
returns c =
    let variables = c.self.inside.variables.items in
    record {
      items = ap pairs_of c.deref.ensures.value ∙ sym (entries-vars_of variables c.self.invariant) ∙ ap entries c.self.view_is;
      valid = subst IsVars c.self.view_is (IsVars-vars_of variables c.self.invariant);
    }
