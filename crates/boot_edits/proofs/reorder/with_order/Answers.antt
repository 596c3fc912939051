use Rattle.std.proofs.Common.{sym, ap, subst, ◌∙◌}
use Rattle.uefi_vars.specs.Name.{order_text}
use Rattle.uefi_vars.specs.NameChanges.{with_data}
use Rattle.uefi_vars.specs.Order.{stored_order}
use Rattle.uefi_vars.specs.Vars.{Variables}
use Rattle.boot_edits.specs.Edit.{IsOrderOf}
use Rattle.boot_edits.proofs.Parts.{as_it_was, then_order}
use Rattle.boot_edits.proofs.reorder.with_order.Goals as goal

pub returns-clause-done : goal.returns-clause-done
returns-clause-done c =
    let vars = c.args.vars.now in
    let order = c.args.order.now in (
      c.in_ok-store_order.ensures.fits,
      subst (IsOrderOf vars order) (sym (c.in_ok-store_order.ensures.stored
          ∙ ap (λ (m : Variables). with_data m order_text (stored_order order)) c.in_ok-edited.ensures.equal))
          (then_order vars vars _ (as_it_was vars) (stored_order order)),
    )
