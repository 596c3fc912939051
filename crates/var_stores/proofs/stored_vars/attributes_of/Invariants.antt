use Rattle.std.proofs.Common.{◌≡◌, ℕ, List, map}
use Rattle.std.specs.List.{AllByRecursion}
use Rattle.std.specs.FinMap.{get}
use Rattle.uefi_vars.specs.Name.{IsName}
use Rattle.var_stores.specs.Record.{record_parts, attribute_bytes, IsRecord}
use Rattle.var_stores.specs.Present.{global_key, set_attributes}
use Rattle.var_stores.specs.PresentMap.{record_under, AreWhole}
use Rattle.var_stores.proofs.OfEachOne.{part_after}
use Rattle.var_stores.proofs.stored_vars.attributes_of.Given as goal

-- with the records that are still to come, what the set has leads to what it is to have
abbrev pub invariant-loop-record : goal.invariant-loop-record
invariant-loop-record l =
    AreWhole l.present → AllByRecursion IsRecord (map record_parts l.record-iterator)
    × ((name : List ℕ) → IsName name → part_after (λ r. attribute_bytes r.header) (global_key name) (get l.vars name)
    (map record_parts l.record-iterator) ≡ set_attributes (record_under l.present (global_key name)))
