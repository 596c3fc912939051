use Rattle.std.proofs.Common.{◌≡◌, ℕ, List, map, sym, ap, subst, ◌∙◌}
use Rattle.var_stores.specs.declared.record.Record.{Record}
use Rattle.var_stores.specs.Record.{record_parts}
use Rattle.var_stores.specs.Present.{found, AreLeftOut}
use Rattle.var_stores.specs.PresentMap.{record_under}
use Rattle.var_stores.proofs.LeftOut.{are_left_out}
use Rattle.var_stores.proofs.StoredVars.{if_ok}
use Rattle.var_stores.proofs.stored_vars.left_out.Goals as goal

pub returns : goal.returns
returns c =
    let present = c.in_ok-present.present in
    let records = map record_parts c.args.store.now.records.items in
    let there : (key : List ℕ) → record_under present key ≡ found key records =
    λ key. c.in_ok-present.ensures.there key ∙ ap (λ (rs : List Record). found key (map record_parts rs)) c.deref.ensures.value in
    if_ok c.left_out_of.result c.left_out_of.ensures.left
    (λ left is. subst (AreLeftOut records) (sym is) (are_left_out present c.left_out_of.ensures.ordered c.in_ok-present.ensures.keyed records there))
