use Rattle.std.proofs.Common.{◌≡◌, ◌++◌, map}
use Rattle.std.specs.BTreeMap.{values}
use Rattle.std.specs.List.{filter}
use Rattle.var_stores.specs.Record.{record_parts}
use Rattle.var_stores.specs.Present.{is_left_out}
use Rattle.var_stores.proofs.stored_vars.left_out_of.Given as goal

-- what is there, with what is still to come
abbrev pub invariant-loop-record : goal.invariant-loop-record
invariant-loop-record l =
    map record_parts l.left.items ++ filter is_left_out (map record_parts l.record-iterator)
    ≡ filter is_left_out (map record_parts (values l.present))
