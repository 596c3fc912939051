use Rattle.std.proofs.Common.{◌≡◌, ◌++◌, length, map}
use Rattle.std.specs.List.{AllByRecursion, flat_map}
use Rattle.var_stores.specs.Record.{record_parts, IsRecord, record_bytes}
use Rattle.var_stores.proofs.record.read_records.Given as goal

abbrev pub invariant-loop-rest : goal.invariant-loop-rest
invariant-loop-rest l = record {
  is : l.bytes ≡ flat_map record_bytes (map record_parts l.records.items) ++ l.rest;
  whole : AllByRecursion IsRecord (map record_parts l.records.items);
}

abbrev pub decreases-loop-rest : goal.decreases-loop-rest
decreases-loop-rest l = length l.rest
