use Rattle.std.proofs.Common.{◌≡◌, false, sym, ap, ◌∙◌}
use Rattle.std.specs.Option.{option_map, option_copied}
use Rattle.var_stores.specs.Record.{record_parts}
use Rattle.var_stores.specs.Present.{key_of, is_added_there}
use Rattle.var_stores.specs.PresentMap.{record_under}
use Rattle.var_stores.proofs.PresentRecords.{kept_added, inserted, looked_up}
use Rattle.var_stores.proofs.present.add.Goals as goal
use Rattle.var_stores.proofs.present.add.Goals.{in_default-via-in-Some+else-is_added, in_default-via-in_default}

pub returns-in-Some : goal.returns-in-Some
returns-in-Some c =
    let r = record_parts c.args.record.now in
    let present = c.args.present.now in
    kept_added present r
    (ap is_added_there (looked_up present c.as_slice.result.now (key_of r) c.get.result c.get.ensures.value
    (c.as_slice.ensures.value ∙ c.in_ok-key.ensures) ∙ ap (λ got. option_map record_parts (option_copied got)) c.in-Some.is)
    ∙ sym c.is_added.ensures ∙ c.if-is_added.true)

pub returns-in_ok-insert-in_default : goal.returns-in_ok-insert-in_default
returns-in_ok-insert-in_default c =
    let r = record_parts c.args.record.now in
    let present = c.args.present.now in
    let under : record_under present (key_of r) ≡ option_map record_parts (option_copied c.get.result) =
    looked_up present c.as_slice.result.now (key_of r) c.get.result c.get.ensures.value (c.as_slice.ensures.value ∙ c.in_ok-key.ensures) in
    let free : is_added_there (record_under present (key_of r)) ≡ false =
    ap is_added_there under ∙ elim c.in_default.branch [
      | in_default-via-in-Some+else-is_added w ↦ ap (λ got. is_added_there (option_map record_parts (option_copied got)))
          w.in-Some.is ∙ sym w.is_added.ensures ∙ w.if-is_added.false
      | in_default-via-in_default w ↦ ap (λ got. is_added_there (option_map record_parts (option_copied got))) w.in_default.is
    ] in
    inserted present c.insert.new.self c.in_ok-key.key c.args.record.now c.in_ok-insert-in_default.ensures.updates
    c.in_ok-key.ensures (sym c.is_alive.ensures ∙ c.if-not-is_alive.false) free
