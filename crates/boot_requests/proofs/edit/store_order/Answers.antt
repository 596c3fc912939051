-- BootOrder is stored, or deleted if it is empty.
use Rattle.std.proofs.Common.{ℕ, List, ◌++◌, length, sym, ap, ◌∙◌, arith}
use Rattle.std.specs.FinMap.{insert}
use Rattle.std.proofs.lemmas.Bool.{eqb-true, eqb-false}
use Rattle.uefi_path.specs.Units.{units_bytes}
use Rattle.uefi_vars.specs.Name.{order_text}
use Rattle.uefi_vars.specs.NameChanges.{with_changes}
use Rattle.boot_requests.proofs.Variables.Edits.{order_stored, order_deleted}
use Rattle.boot_requests.proofs.Frames.TwoBytes.{numbers_from_fits}
use Rattle.boot_requests.proofs.edit.store_order.Goals as goal

pub returns-then-is_empty : goal.returns-then-is_empty
returns-then-is_empty c = λ vars m h.
    order_deleted m _ _ c.args.order.now (eqb-true (length c.args.order.now) 0 (sym c.is_empty.ensures ∙ c.if-is_empty.true))
    (c.in_ok-remove.ensures.removed vars) h

pub returns : goal.returns
returns c = λ vars m h.
    let order = c.args.order.now in
    let old = with_changes vars c.args.changes.now in
    let some = eqb-false (length order) 0 (sym c.is_empty.ensures ∙ c.if-is_empty.false) in
    order_stored m old _ order
    (record { numbers = numbers_from_fits order (λ i. omega (arith, c.type_inv.order i)); len = c.requires })
    (omega (arith, some))
    (c.in_ok-put.ensures vars
    ∙ ap (λ (b : List ℕ). insert old order_text b) (c.in_ok-append_units.ensures.ok ∙ ap (λ (b : List ℕ). b ++ units_bytes order) c.new-bytes.ensures.items))
    h
