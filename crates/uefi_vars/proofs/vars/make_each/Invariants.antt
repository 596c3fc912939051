use Rattle.std.proofs.Common.{◌≡◌, ◌+◌, ◌≤◌, length}
use Rattle.std.specs.List.{AllByRecursion}
use Rattle.std.specs.Vec.{vec_len, vec_capacity}
use Rattle.std.specs.Vec.Iter.{into_iter_items, into_iter_len}
use Rattle.uefi_vars.specs.Records.{pairs_of, AreVariables, vars_of}
use Rattle.uefi_vars.specs.NameChanges.{after_each, IsChange}
use Rattle.uefi_vars.proofs.vars.make_each.Given as goal

abbrev pub invariant-loop-change : goal.invariant-loop-change
invariant-loop-change l =
    let left = into_iter_items l.change-iterator in
    record {
      made : after_each (vars_of l.variables.items) (pairs_of left)
          ≡ after_each (vars_of l.initial.variables.items) (pairs_of (into_iter_items l.initial.change-iterator));
      held : AreVariables (pairs_of l.variables.items);
      valid : AllByRecursion IsChange (pairs_of left);
      room : vec_len l.variables + length left ≤ vec_capacity l.variables;
      len : into_iter_len l.change-iterator ≡ length left;
    }
