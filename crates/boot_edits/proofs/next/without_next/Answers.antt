use Rattle.std.proofs.Common.{None, sym, ap, subst, ◌∙◌}
use Rattle.uefi_vars.specs.Name.{next_text}
use Rattle.uefi_vars.specs.NameChanges.{with_data}
use Rattle.uefi_vars.specs.Vars.{Variables}
use Rattle.boot_edits.specs.Edit.{IsNextOf}
use Rattle.boot_edits.proofs.Parts.{as_it_was, then_next}
use Rattle.boot_edits.proofs.next.without_next.Goals as goal

pub returns : goal.returns
returns c =
    let vars = c.args.vars.now in
    subst (IsNextOf vars None) (sym (c.delete_next.ensures ∙ ap (λ (m : Variables). with_data m next_text None) c.in_ok-edited.ensures.equal))
    (then_next vars vars _ (as_it_was vars) None)
