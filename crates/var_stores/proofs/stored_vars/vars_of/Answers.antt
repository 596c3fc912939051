use Rattle.std.proofs.Common.{◌≡◌, ℕ, List, ◌∷◌, map, None, sym, ap, subst, ◌∙◌}
use Rattle.std.specs.BTreeMap.{values}
use Rattle.std.specs.FinMap.{get, get-empty}
use Rattle.std.specs.List.{AllByRecursion}
use Rattle.uefi_vars.specs.Name.{IsName}
use Rattle.uefi_vars.specs.Vars.{name_cmp}
use Rattle.var_stores.specs.PresentMap.{record_under}
use Rattle.var_stores.specs.declared.record.Record.{Record}
use Rattle.var_stores.specs.Record.{record_parts, IsRecord}
use Rattle.var_stores.specs.Present.{global_key, set_data}
use Rattle.var_stores.proofs.OfEachOne.{part_after, part_after-first}
use Rattle.var_stores.proofs.PresentValues.{records_of_each_one, first_under, records_whole}
use Rattle.var_stores.proofs.stored_vars.vars_of.Goals as goal

pub loop-record-init : goal.loop-record-init
loop-record-init c = λ whole.
    let present = c.args.present.now in
    let ordered = c.values-record-items.ensures.ordered in
    let all : c.into_iter-record-iterator.result ≡ values present =
    c.into_iter-record-iterator.ensures.into_iter_gives ∙ c.values-record-items.ensures.rest in (
      subst (λ (rs : List Record). AllByRecursion IsRecord (map record_parts rs)) (sym all) (records_whole present ordered c.requires whole),
      λ name is.
          ap (λ vars. part_after (λ r. r.value) (global_key name) (get vars name) (map record_parts c.into_iter-record-iterator.result)) c.new-vars.ensures
          ∙ ap (λ before. part_after (λ r. r.value) (global_key name) before (map record_parts c.into_iter-record-iterator.result)) (get-empty name_cmp name)
          ∙ ap (λ (rs : List Record). part_after (λ r. r.value) (global_key name) None (map record_parts rs)) all
          ∙ part_after-first (λ r. r.value) (global_key name) (map record_parts (values present)) (records_of_each_one present ordered c.requires)
          ∙ ap set_data (first_under present ordered c.requires (global_key name)),
    )

pub loop-record-preserved : goal.loop-record-preserved
loop-record-preserved c = λ whole.
    let vars = c.loop-record.vars in
    let leads : AllByRecursion IsRecord (map record_parts (c.in-Some.record.now ∷ c.next.new.self))
    × ((name : List ℕ) → IsName name → part_after (λ r. r.value) (global_key name) (get vars name)
    (map record_parts (c.in-Some.record.now ∷ c.next.new.self)) ≡ set_data (record_under c.args.present.now (global_key name)))
    = subst (λ (rs : List Record). AllByRecursion IsRecord (map record_parts rs)
    × ((name : List ℕ) → IsName name → part_after (λ r. r.value) (global_key name) (get vars name) (map record_parts rs)
    ≡ set_data (record_under c.args.present.now (global_key name)))) c.in-Some.ensures.steps
    (c.loop-record.invariant whole) in (
      leads.0.1,
      λ name is. ap (λ before. part_after (λ r. r.value) (global_key name) before (map record_parts c.next.new.self))
          (c.in_ok-put_record.ensures leads.0.0 name is) ∙ leads.1 name is,
    )
