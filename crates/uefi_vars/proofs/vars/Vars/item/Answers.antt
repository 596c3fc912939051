use Rattle.std.proofs.Common.{Some, option_map, slice_get, ap, sym, subst, length, arith, ◌≤◌, ◌∙◌}
use Rattle.std.specs.FinMap.{entries}
use Rattle.std.proofs.lemmas.Option.{slice_get-map, slice_get-get_or, slice_get_past}
use Rattle.uefi_vars.specs.Vars.{IsVars}
use Rattle.uefi_vars.specs.Records.{pair_of, pairs_of}
use Rattle.uefi_vars.proofs.Maps.{entries-vars_of, IsVars-vars_of}
use Rattle.uefi_vars.proofs.vars.Vars.item.Goals as goal

pub returns-in_err-variable : goal.returns-in_err-variable
returns-in_err-variable c =
    let variables = c.self.inside.variables.items in
    let past : length variables ≤ c.args.index = omega (arith, c.in_err-variable.ensures.lookup, ap length c.deref.ensures.value) in
    let listed = ap (λ l. slice_get l c.args.index) (sym (ap entries c.self.view_is)
    ∙ entries-vars_of variables c.self.invariant) ∙ slice_get-map pair_of variables c.args.index
    ∙ ap (option_map pair_of) (slice_get_past variables c.args.index past) in
    record {
      item = ap (option_map (λ item. (item.0.now, item.1.now))) c.from_residual.ensures ∙ sym listed;
      valid = subst IsVars c.self.view_is (IsVars-vars_of variables c.self.invariant);
    }

pub returns : goal.returns
returns c =
    let variables = c.self.inside.variables.items in
    let variable = c.in_ok-variable.variable.now in
    let found = c.in_ok-variable.ensures.lookup in
    let read = slice_get-get_or c.deref.result.now c.args.index variable (omega (arith, found)) in
    let listed = ap (λ l. slice_get l c.args.index) (sym (ap entries c.self.view_is) ∙ entries-vars_of variables c.self.invariant
    ∙ sym (ap pairs_of c.deref.ensures.value)) ∙ slice_get-map pair_of c.deref.result.now c.args.index
    ∙ ap (option_map pair_of) read in
    record {
      item = (λ i. Some (c.as_str.ensures i, c.as_slice.ensures i)) ∙ ap (λ v. Some (pair_of v)) found.1 ∙ sym listed;
      valid = subst IsVars c.self.view_is (IsVars-vars_of variables c.self.invariant);
    }
