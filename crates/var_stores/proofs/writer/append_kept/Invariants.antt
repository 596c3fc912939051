use Rattle.std.proofs.Common.{◌≡◌, ◌++◌, map}
use Rattle.std.specs.BTreeMap.{values}
use Rattle.std.specs.List.{flat_map}
use Rattle.var_stores.specs.Record.{record_parts, record_bytes}
use Rattle.var_stores.specs.Rewriting.{unchanged}
use Rattle.var_stores.proofs.writer.append_kept.Given as goal

-- what is there, with what is still to come
abbrev pub invariant-loop-record : goal.invariant-loop-record
invariant-loop-record l =
    l.bytes.items ++ flat_map record_bytes (unchanged l.from l.to (map record_parts l.record-iterator))
    ≡ l.fn.bytes.items ++ flat_map record_bytes (unchanged l.from l.to (map record_parts (values l.present)))
