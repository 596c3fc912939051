use Rattle.std.proofs.Common.{◌≡◌, ◌++◌}
use Rattle.std.specs.FinMap.{get, entries}
use Rattle.std.specs.List.{AllByRecursion, flat_map}
use Rattle.uefi_vars.specs.Vars.{IsVariable}
use Rattle.uefi_vars.specs.Iter.{variables_left}
use Rattle.var_stores.specs.Record.{record_bytes}
use Rattle.var_stores.specs.Present.{global_key}
use Rattle.var_stores.specs.PresentMap.{record_under}
use Rattle.var_stores.specs.Rewriting.{new_attributes, added}
use Rattle.var_stores.proofs.writer.added.Given as goal

-- what is there, with what is still to come, which are variables
abbrev pub invariant-loop-name : goal.invariant-loop-name
invariant-loop-name l = record {
  valid : AllByRecursion IsVariable (variables_left l.name-iterator);
  is : l.bytes.items ++ flat_map record_bytes (added l.from l.to
      (λ name. new_attributes (get l.attributes name) (record_under l.present (global_key name))) (variables_left l.name-iterator))
      ≡ flat_map record_bytes (added l.from l.to (λ name. new_attributes (get l.attributes name) (record_under l.present (global_key name))) (entries l.to));
}
