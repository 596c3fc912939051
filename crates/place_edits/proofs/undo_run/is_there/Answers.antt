-- The variables need no change exactly if those of the boot manager are the same.
use Rattle.std.proofs.Common.{◌≡◌, ◌↔◌, [], subst}
use Rattle.std.specs.Prelude.{IsTrue}
use Rattle.uefi_vars.specs.BootChange.{changes_from}
use Rattle.uefi_vars.specs.Vars.{Variables}
use Rattle.change_records.specs.BootPart.{as_used}
use Rattle.place_edits.proofs.undo_run.is_there.Goals as goal

pub returns : goal.returns
returns c =
    let now = c.args.vars.now in
    let used = as_used now c.args.back.now in
    let law = c.equal_variables_need_no_change.ensures now used in
    let same = subst (λ (v : Variables). IsTrue c.in_ok-there.there ↔ (changes_from now v ≡ [])) c.in_ok-used.ensures
    c.in_ok-there.ensures in
    (λ is. law.0 (same.0 is), λ there. same.1 (law.1 there))
