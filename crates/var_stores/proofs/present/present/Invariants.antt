use Rattle.std.proofs.Common.{◌≡◌, ℕ, List, map, drop}
use Rattle.var_stores.specs.Record.{record_parts}
use Rattle.var_stores.specs.Present.{found, found_after}
use Rattle.var_stores.specs.PresentMap.{record_under}
use Rattle.var_stores.proofs.present.present.Given as goal

-- with the records that are still to come, what is found leads to what is found of all
abbrev pub invariant-loop-record : goal.invariant-loop-record
invariant-loop-record l =
    (key : List ℕ) → found_after key (record_under l.present key) (map record_parts (drop l.record-index l.records)) ≡ found key (map record_parts l.records)
