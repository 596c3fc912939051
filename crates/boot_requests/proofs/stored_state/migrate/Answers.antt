use Rattle.std.proofs.Common.{sym, ap, ◌∙◌}
use Rattle.std.specs.FinMap.{insert}
use Rattle.uefi_vars.specs.Vars.{Variables}
use Rattle.uefi_vars.specs.NameChanges.{with_data}
use Rattle.uefi_vars.specs.Name.{keep_text}
use Rattle.boot_requests.specs.State.{mark_bytes}
use Rattle.boot_requests.proofs.Variables.Edits.{mark_stored}
use Rattle.boot_requests.proofs.Variables.Stored.{stored_again}
use Rattle.boot_requests.proofs.stored_state.migrate.Goals as goal

pub returns-then-is_current-clause-put : goal.returns-then-is_current-clause-put
returns-then-is_current-clause-put c =
    let vars = c.args.vars.now in
    let mark = c.args.mark.now in
    let second = c.is_current.ensures.current mark.next_number mark.kept c.if-is_current.true c.requires in
    sym (ap (with_data vars keep_text) (sym second.stored) ∙ stored_again vars keep_text)

pub returns-clause-put : goal.returns-clause-put
returns-clause-put c =
    let vars = c.args.vars.now in
    let mark = c.args.mark.now in
    let some = c.is_current.ensures.other mark.next_number mark.kept c.if-is_current.false c.requires in
    c.in_ok-make.ensures.made ∙ c.in_ok-store_mark.ensures.put vars
    ∙ ap (λ (v : Variables). insert v keep_text (mark_bytes mark.next_number mark.kept)) (c.new-changes.ensures vars)
    ∙ ap (with_data vars keep_text) (sym (mark_stored mark.next_number mark.kept some))
