use Rattle.std.proofs.Common.{◌≡◌, ◌++◌, map, drop}
use Rattle.std.specs.List.{flat_map}
use Rattle.var_stores.specs.Record.{record_parts, record_bytes}
use Rattle.var_stores.specs.Rewriting.{without_outdated}
use Rattle.var_stores.proofs.writer.append_records.Given as goal

-- what is there, with what is still to come
abbrev pub invariant-loop-record : goal.invariant-loop-record
invariant-loop-record l =
    l.bytes.items ++ flat_map record_bytes (without_outdated l.from l.to (map record_parts (drop l.record-index l.records)))
    ≡ l.fn.bytes.items ++ flat_map record_bytes (without_outdated l.from l.to (map record_parts l.records))
