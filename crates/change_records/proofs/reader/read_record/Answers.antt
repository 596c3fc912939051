-- What is spelled has no fault, and is one record.
use Rattle.std.proofs.Common.{List, ℕ, Bor, sym, subst}
use Rattle.change_records.specs.Fields.{HasFields}
use Rattle.change_records.proofs.Spellings.{all_of, only_this, spells_so, faulty_so}
use Rattle.change_records.proofs.reader.read_record.Goals as goal

pub returns-clause-only : goal.returns-clause-only
returns-clause-only c =
    let bytes = c.args.bytes.now in
    let has : HasFields bytes (all_of c.deref.result.now) =
    subst (λ (fs : List (Bor (List ℕ))). HasFields bytes (all_of fs)) (sym c.deref.ensures.value) c.in_ok-fields.ensures.found in
    only_this c.bytes_spell_one_record.ensures c.a_fault_leaves_no_record.ensures bytes c.record_of.result
    (spells_so bytes (all_of c.deref.result.now) c.record_of.result has c.record_of.ensures.valid c.record_of.ensures.found)
    (faulty_so bytes (all_of c.deref.result.now) c.record_of.result has c.record_of.ensures.fault)
