use Rattle.std.proofs.Common.{◌≡◌, ℕ, List, length, sym, ap, subst, ◌∙◌, inl, inr, arith}
use Rattle.std.proofs.lemmas.Result.{err_from_is_err_and}
use Rattle.uefi_vars.specs.Name.{order_text}
use Rattle.uefi_vars.specs.NameChanges.{with_data}
use Rattle.uefi_vars.specs.Order.{stored_order}
use Rattle.boot_requests.specs.Apply.{without_all}
use Rattle.boot_edits.specs.Parts.{Becomes}
use Rattle.boot_requests.proofs.Variables.OrderLists.{left_fits}
use Rattle.boot_edits.proofs.Parts.{without_becomes, then_order, forgotten}
use Rattle.boot_edits.proofs.remove.remove.Goals as goal

pub returns-clause-done : goal.returns-clause-done
returns-clause-done c =
    let vars = c.args.vars.now in
    let numbers = c.args.numbers.now in
    let tells = c.in_ok-listed.ensures in
    let others = c.deref-2.ensures.value ∙ c.in_ok-others.ensures numbers tells ∙ ap (without_all numbers) c.deref.ensures.value in
    let edited = c.in_ok-edited.edited in
    let mid = then_order vars edited _ (without_becomes numbers vars edited (c.in_ok-edited.ensures numbers tells))
    (stored_order (without_all numbers c.in_ok-order.order.items)) in
    record {
      fine = c.in_ok-check_each.ensures.fine;
      order = c.in_ok-order.order.items;
      has_order = c.in_ok-order.ensures.found;
      next = c.in_ok-next.next;
      has_next = c.in_ok-next.ensures.found;
      becomes = forgotten numbers c.in_ok-next.next vars _ _ _
          (subst (Becomes vars _) (sym (c.in_ok-store_order.ensures.stored ∙ ap (λ (o : List ℕ). with_data edited order_text (stored_order o)) others)) mid)
          c.in_ok-next.ensures.found.stored (c.forget_next.ensures numbers tells);
    }

pub returns-in_err-order-clause-refused : goal.returns-in_err-order-clause-refused
returns-in_err-order-clause-refused c =
    let p = err_from_is_err_and c.from_residual-in_err-order.result c.from_residual-in_err-order.ensures.1 in
    rw (p.1, p.2) (λ told.
    inr (c.in_ok-check_each.ensures.fine, inl (c.in_err-order.ensures.refused told)))

pub returns-in_err-next-clause-refused : goal.returns-in_err-next-clause-refused
returns-in_err-next-clause-refused c =
    let p = err_from_is_err_and c.from_residual-in_err-next.result c.from_residual-in_err-next.ensures.1 in
    rw (p.1, p.2) (λ told.
    let bad = c.in_err-next.ensures.refused told in
    inr (
      c.in_ok-check_each.ensures.fine,
      inr (bad.0, (λ bad_order. c.a_bad_order_gives_no_order.ensures c.args.vars.now c.in_ok-order.order.items bad_order c.in_ok-order.ensures.found), bad.1),
    ))

pub returns-in_err-store_order-clause-refused : goal.returns-in_err-store_order-clause-refused
returns-in_err-store_order-clause-refused c =
    let p = err_from_is_err_and c.from_residual-in_err-store_order.result c.from_residual-in_err-store_order.ensures.1 in
    rw (p.1, p.2) (λ told.
    let numbers = c.args.numbers.now in
    let long = c.in_err-store_order.ensures.refused told in
    let others = c.deref-2.ensures.value ∙ c.in_ok-others.ensures numbers c.in_ok-listed.ensures ∙ ap (without_all numbers) c.deref.ensures.value in
    let len : length c.deref-2.result.now ≡ length (without_all numbers c.in_ok-order.order.items) = ap length others in
    absurd (omega (arith, long.1, len, left_fits numbers c.in_ok-order.order.items, c.in_ok-order.ensures.found.is.len)))
