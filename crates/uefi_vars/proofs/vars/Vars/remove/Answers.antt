use Rattle.std.proofs.Common.{is_some, ap, sym, ◌∙◌}
use Rattle.std.specs.FinMap.{from_sorted, get, remove}
use Rattle.std.specs.FinMap.Entries.{find}
use Rattle.uefi_vars.specs.Vars.{name_cmp}
use Rattle.uefi_vars.specs.Records.{pairs_of, without}
use Rattle.uefi_vars.proofs.Maps.{get-vars_of, IsVars-vars_of, from_sorted-without}
use Rattle.uefi_vars.proofs.vars.Vars.remove.Goals as goal

pub returns : goal.returns
returns c =
    let variables = c.self.inside.variables.items in
    let name = c.args.name.now in
    let erased = c.erase.ensures.erased ∙ ap (λ n. without n (pairs_of variables)) c.as_bytes.ensures.value in
    record {
      was = c.erase.ensures.was ∙ ap is_some (ap (λ n. find name_cmp n (pairs_of variables)) c.as_bytes.ensures.value
          ∙ sym (get-vars_of variables c.self.invariant name) ∙ ap (λ m. get m name) c.self.view_is);
      removed = ap from_sorted erased ∙ from_sorted-without (pairs_of variables) c.self.invariant name ∙ ap (λ m. remove m name) c.self.view_is;
      valid = IsVars-vars_of _ c.erase.ensures.held;
    }
