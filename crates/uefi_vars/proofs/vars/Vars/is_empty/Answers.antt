use Rattle.std.proofs.Common.{ap, sym, ◌∙◌}
use Rattle.std.specs.FinMap.{len, len-empty, empty_of_len}
use Rattle.std.proofs.lemmas.Bool.{eqb-true, eq-eqb}
use Rattle.uefi_vars.specs.Vars.{name_cmp}
use Rattle.uefi_vars.proofs.Maps.{len-vars_of}
use Rattle.uefi_vars.proofs.vars.Vars.is_empty.Goals as goal

pub returns : goal.returns
returns c =
    let variables = c.self.inside.variables in
    let held = variables.ok.0 ∙ sym (len-vars_of variables.items c.self.invariant) ∙ ap len c.self.view_is in (
      λ yes. empty_of_len c.args.self.now (sym held ∙ eqb-true variables.len 0 (sym c.is_empty.ensures ∙ yes)),
      λ e. c.is_empty.ensures ∙ eq-eqb variables.len 0 (held ∙ ap len e ∙ len-empty name_cmp _),
    )
