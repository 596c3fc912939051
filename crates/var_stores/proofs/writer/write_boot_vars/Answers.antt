use Rattle.std.proofs.Common.{◌≡◌, ◌++◌, ◌-◌, ◌<◌, ℕ, List, Option, Ok, map, length, drop, append_assoc, sym, ap, subst, ◌∙◌}
use Rattle.std.proofs.Math.ListN.{replicate}
use Rattle.std.specs.BTreeMap.{values}
use Rattle.std.specs.FinMap.{get, entries}
use Rattle.std.specs.List.{AllByRecursion, flat_map}
use Rattle.uefi_vars.proofs.Maps.{entries-AllByRecursion}
use Rattle.var_stores.specs.declared.record.Record.{Record}
use Rattle.var_stores.specs.Record.{RecordParts, record_parts, record_bytes, IsRecord}
use Rattle.var_stores.specs.Volume.{store_parts, SpellsStore}
use Rattle.var_stores.specs.Present.{global_key, found, set_data, IsSetOf}
use Rattle.var_stores.specs.PresentMap.{record_under, AreWhole}
use Rattle.var_stores.specs.Rewriting.{new_attributes, added, unchanged, without_outdated, new_records, new_bytes, Fits, IsWritten}
use Rattle.var_stores.proofs.StoreFaults.{no_store, store_fault, store_only}
use Rattle.var_stores.proofs.PresentRecords.{are_whole}
use Rattle.var_stores.proofs.RewrittenStores.{appended, moved, put_together, fills_area, exceeds_area}
use Rattle.var_stores.proofs.WholeRecords.{without_outdated-whole, added-whole}
use Rattle.var_stores.proofs.Kept.{are_kept, kept_whole}
use Rattle.var_stores.proofs.writer.write_boot_vars.Goals as goal
use Rattle.var_stores.proofs.writer.write_boot_vars.Goals.{in-Some+in_ok-append_all-in-Some, in-None+in_ok-append_moved-in-None+else-not-branch}

pub added-requires : goal.added-requires
added-requires c =
    let records = map record_parts c.in_ok-store.store.records.items in
    are_whole c.in_ok-present.present records
    (λ key. c.in_ok-present.ensures.there key ∙ ap (λ (rs : List Record). found key (map record_parts rs)) c.deref.ensures.value)
    c.in_ok-store.ensures.found.area.whole

pub returns-in_err-store-clause-fault : goal.returns-in_err-store-clause-fault
returns-in_err-store-clause-fault c =
    store_fault c.args.file.now c.args.to.now c.args.attributes.now c.in_err-store.field-0.0 c.from_residual.result
    c.from_residual.ensures.1 c.in_err-store.ensures.fault

pub returns-in_err-store-clause-only_fault : goal.returns-in_err-store-clause-only_fault
returns-in_err-store-clause-only_fault c = λ fault other is.
    store_only c.args.file.now c.in_err-store.field-0.0 fault c.from_residual.result c.from_residual.ensures.1 c.in_err-store.ensures.fault other is

pub returns-then-not-branch-clause-only_fault : goal.returns-then-not-branch-clause-only_fault
returns-then-not-branch-clause-only_fault c = λ fault other is.
    absurd (no_store c.args.file.now fault (store_parts c.in_ok-store.store) other is c.in_ok-store.ensures.found)

pub returns-clause-only_fault : goal.returns-clause-only_fault
returns-clause-only_fault c = λ fault other is.
    absurd (no_store c.args.file.now fault (store_parts c.in_ok-store.store) other is c.in_ok-store.ensures.found)

pub returns-then-not-branch-clause-fault : goal.returns-then-not-branch-clause-fault
returns-then-not-branch-clause-fault c =
    let store = c.in_ok-store.store in
    let file = c.args.file.now in
    let s = store_parts store in
    let to = c.args.to.now in
    let given = c.args.attributes.now in
    let from = c.in_ok-from.from in
    let present = c.in_ok-present.present in
    let there : (key : List ℕ) → record_under present key ≡ found key s.records =
    λ key. c.in_ok-present.ensures.there key ∙ ap (λ (rs : List Record). found key (map record_parts rs)) c.deref.ensures.value in
    let was : SpellsStore file s = c.in_ok-store.ensures.found in
    let whole : AllByRecursion IsRecord s.records = was.area.whole in
    let present_whole : AreWhole present = are_whole present s.records there whole in
    let from_is : IsSetOf s.records from = λ name is. c.in_ok-from.ensures present_whole name is ∙ ap set_data (there (global_key name)) in
    let new_is : c.in_ok-added.added.items ≡ new_bytes s.records from to given =
    c.in_ok-added.ensures.bytes
    ∙ ap (λ (before : List ℕ → Option RecordParts). flat_map record_bytes
    (added from to (λ name. new_attributes (get given name) (before name)) (entries to))) (λ i name. there (global_key name) i) in
    let kept = unchanged from to (map record_parts (values present)) in
    let full : Fits (new_bytes s.records from to given) s.free → ⊥ =
    subst (λ (new : List ℕ). Fits new s.free → ⊥) (c.deref-2.ensures.value ∙ new_is) c.in-None.ensures in
    let more : length file - length s.rest < length (s.head ++ (flat_map record_bytes kept ++ new_bytes s.records from to given)) =
    subst (λ (b : List ℕ). length file - length s.rest < length b)
    (ap (λ (h : List ℕ). h ++ (flat_map record_bytes kept ++ c.deref-in-None.result.now)) c.in_ok-bytes.ensures.items
    ∙ ap (λ (new : List ℕ). s.head ++ (flat_map record_bytes kept ++ new)) (c.deref-in-None.ensures.value ∙ new_is))
    (c.in_ok-append_moved-in-None.ensures.full (ap Ok c.if-not-branch.true)) in
    record {
      before = s;
      was = was;
      from = from;
      from_is = from_is;
      full = full;
      kept = kept;
      are = are_kept present c.in_ok-append_moved-in-None.ensures.ordered c.in_ok-present.ensures.keyed s.records from to there;
      many = exceeds_area file s (flat_map record_bytes kept ++ new_bytes s.records from to given) was more;
    }

pub returns-clause-written : goal.returns-clause-written
returns-clause-written c =
    let store = c.in_ok-store.store in
    let file = c.args.file.now in
    let s = store_parts store in
    let to = c.args.to.now in
    let given = c.args.attributes.now in
    let from = c.in_ok-from.from in
    let present = c.in_ok-present.present in
    let there : (key : List ℕ) → record_under present key ≡ found key s.records =
    λ key. c.in_ok-present.ensures.there key ∙ ap (λ (rs : List Record). found key (map record_parts rs)) c.deref.ensures.value in
    let was : SpellsStore file s = c.in_ok-store.ensures.found in
    let whole : AllByRecursion IsRecord s.records = was.area.whole in
    let present_whole : AreWhole present = are_whole present s.records there whole in
    let from_is : IsSetOf s.records from = λ name is. c.in_ok-from.ensures present_whole name is ∙ ap set_data (there (global_key name)) in
    let new_is : c.in_ok-added.added.items ≡ new_bytes s.records from to given =
    c.in_ok-added.ensures.bytes
    ∙ ap (λ (before : List ℕ → Option RecordParts). flat_map record_bytes
    (added from to (λ name. new_attributes (get given name) (before name)) (entries to))) (λ i name. there (global_key name) i) in
    let new_whole : AllByRecursion IsRecord (new_records s.records from to given) =
    added-whole s.records from to given (entries to) whole (entries-AllByRecursion to c.in_ok-added.ensures.valid) in
    let bytes = c.extend_from_slice.new.self.items in
    elim c.match-free_after.branch as (λ w. IsWritten file to given bytes) [
      | in-Some+in_ok-append_all-in-Some w ↦
          let fits : Fits (new_bytes s.records from to given) s.free × (w.in-Some.free.now ≡ drop (length (new_bytes s.records from to given)) s.free) =
          subst (λ (new : List ℕ). Fits new s.free × (w.in-Some.free.now ≡ drop (length new) s.free)) (c.deref-2.ensures.value ∙ new_is) w.in-Some.ensures in
          appended file s was from to given from_is new_whole bytes (without_outdated-whole from to s.records whole) fits.0
          (put_together bytes c.match-free_after.bytes.items c.in_ok-bytes.bytes.items s.head _
          (flat_map record_bytes (without_outdated from to s.records)) _ (new_bytes s.records from to given) w.in-Some.free.now
          (drop (length (new_bytes s.records from to given)) s.free) s.rest c.in_ok-extend_from_slice.ensures.items
          (ap (λ b. b.items) w.bytes-is ∙ w.in_ok-append_all-in-Some.ensures) c.in_ok-bytes.ensures.items
          (ap (λ (rs : List Record). flat_map record_bytes (without_outdated from to (map record_parts rs)))
          w.deref-in-Some.ensures.value) (w.deref-in-Some-2.ensures.value ∙ new_is) fits.1)
      | in-None+in_ok-append_moved-in-None+else-not-branch w ↦
          let kept = unchanged from to (map record_parts (values present)) in
          let full : Fits (new_bytes s.records from to given) s.free → ⊥ =
          subst (λ (new : List ℕ). Fits new s.free → ⊥) (c.deref-2.ensures.value ∙ new_is) w.in-None.ensures in
          let done = w.in_ok-append_moved-in-None.ensures.moved (ap Ok w.if-not-branch.false) in
          let area = (flat_map record_bytes kept ++ new_bytes s.records from to given) ++ replicate done.0 0xFF in
          let area_is : w.append_moved.new.bytes.items ≡ s.head ++ area =
          done.1 ∙ ap (λ (h : List ℕ). h ++ ((flat_map record_bytes kept ++ w.deref-in-None.result.now) ++ replicate done.0 0xFF)) c.in_ok-bytes.ensures.items
          ∙ ap (λ (new : List ℕ). s.head ++ ((flat_map record_bytes kept ++ new) ++ replicate done.0 0xFF)) (w.deref-in-None.ensures.value ∙ new_is) in
          moved file s was from to given from_is new_whole bytes kept done.0
          (kept_whole present w.in_ok-append_moved-in-None.ensures.ordered c.in_ok-present.ensures.keyed from to present_whole)
          (are_kept present w.in_ok-append_moved-in-None.ensures.ordered c.in_ok-present.ensures.keyed s.records from to there) full
          (c.in_ok-extend_from_slice.ensures.items ∙ ap (λ (b : List ℕ). b ++ s.rest) (ap (λ b. b.items) w.bytes-is ∙ area_is)
          ∙ append_assoc s.head area s.rest)
          (fills_area file s area was (ap length (sym area_is) ∙ done.2))
    ]
