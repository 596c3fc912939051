use Rattle.std.proofs.Common.{◌≡◌, ℕ, List, map, ap, ◌∙◌}
use Rattle.var_stores.specs.declared.record.Record.{Record}
use Rattle.var_stores.specs.Record.{record_parts}
use Rattle.var_stores.specs.Present.{global_key, found, set_attributes}
use Rattle.var_stores.specs.PresentMap.{record_under}
use Rattle.var_stores.proofs.PresentRecords.{are_whole}
use Rattle.var_stores.proofs.StoredVars.{if_ok}
use Rattle.var_stores.proofs.stored_vars.store_attributes.Goals as goal

pub returns : goal.returns
returns c =
    let present = c.in_ok-present.present in
    let records = map record_parts c.args.store.now.records.items in
    let there : (key : List ℕ) → record_under present key ≡ found key records =
    λ key. c.in_ok-present.ensures.there key ∙ ap (λ (rs : List Record). found key (map record_parts rs)) c.deref.ensures.value in
    if_ok c.attributes_of.result c.attributes_of.ensures (λ vars has whole name is.
    has (are_whole present records there whole) name is ∙ ap set_attributes (there (global_key name)))
