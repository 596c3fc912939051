use Rattle.std.proofs.Common.{ap, sym, subst, ◌∙◌}
use Rattle.std.specs.FinMap.{get}
use Rattle.std.specs.FinMap.Entries.{find}
use Rattle.uefi_vars.specs.Name.{entry_text}
use Rattle.uefi_vars.specs.Vars.{name_cmp, IsVars}
use Rattle.uefi_vars.specs.Records.{pairs_of}
use Rattle.uefi_vars.proofs.Maps.{get-vars_of, IsVars-vars_of}
use Rattle.uefi_vars.proofs.vars.Vars.entry.Goals as goal

pub returns : goal.returns
returns c =
    let variables = c.self.inside.variables.items in
    let name = entry_text c.args.number in
    record {
      value = c.find_data.ensures ∙ ap (λ n. find name_cmp n (pairs_of c.deref.result.now)) c.entry_name.ensures.text
          ∙ ap (λ l. find name_cmp name (pairs_of l)) c.deref.ensures.value
          ∙ sym (get-vars_of variables c.self.invariant name) ∙ ap (λ m. get m name) c.self.view_is;
      valid = subst IsVars c.self.view_is (IsVars-vars_of variables c.self.invariant);
    }
