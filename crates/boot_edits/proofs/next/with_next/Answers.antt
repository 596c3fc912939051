use Rattle.std.proofs.Common.{Some, sym, ap, subst, ◌∙◌, refl}
use Rattle.uefi_vars.specs.Name.{next_text}
use Rattle.uefi_vars.specs.NameChanges.{with_data}
use Rattle.uefi_vars.specs.Order.{stored_next}
use Rattle.uefi_vars.specs.Vars.{Variables}
use Rattle.boot_edits.specs.declared.fault.EditFault.TheVariants.{Missing}
use Rattle.boot_edits.specs.Edit.{IsNextOf}
use Rattle.boot_edits.proofs.Parts.{as_it_was, then_next}
use Rattle.boot_edits.proofs.next.with_next.Goals as goal

pub returns-clause-done : goal.returns-clause-done
returns-clause-done c =
    let vars = c.args.vars.now in
    let next = Some c.args.number in (
      λ none. c.in_ok-check_one.ensures.fine (Missing c.args.number) (refl, none),
      subst (IsNextOf vars next) (sym (c.in_ok-store_next.ensures
          ∙ ap (λ (m : Variables). with_data m next_text (stored_next next)) c.in_ok-edited.ensures.equal))
          (then_next vars vars _ (as_it_was vars) (stored_next next)),
    )
