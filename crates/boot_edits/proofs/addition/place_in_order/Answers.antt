use Rattle.std.proofs.Common.{◌≡◌, length, ap, ◌∙◌, inl, inr, arith}
use Rattle.std.proofs.lemmas.Result.{err_from_is_err_and}
use Rattle.boot_edits.specs.Addition.{placed}
use Rattle.boot_edits.proofs.addition.place_in_order.Goals as goal

pub returns-clause-placed : goal.returns-clause-placed
returns-clause-placed c =
    let is = c.in_ok-order.ensures ∙ ap (placed c.args.position c.args.number) c.deref.ensures.value in (
      c.deref-2.result.now,
      record {
        order = c.in_ok-old.old.items;
        old = c.in_ok-old.ensures.found;
        is = c.deref-2.ensures.value ∙ is;
        fits = c.in_ok-store_order.ensures.fits;
      },
      c.in_ok-store_order.ensures.stored,
    )

pub returns-in_err-old-clause-refused : goal.returns-in_err-old-clause-refused
returns-in_err-old-clause-refused c =
    let p = err_from_is_err_and c.from_residual.result c.from_residual.ensures.1 in
    rw (p.1, p.2) (λ told.
    inl (c.in_err-old.ensures.refused told))

pub returns-in_err-store_order-clause-refused : goal.returns-in_err-store_order-clause-refused
returns-in_err-store_order-clause-refused c =
    let p = err_from_is_err_and c.from_residual-in_err-store_order.result c.from_residual-in_err-store_order.ensures.1 in
    rw (p.1, p.2) (λ told.
    let long = c.in_err-store_order.ensures.refused told in
    let is = c.deref-2.ensures.value ∙ c.in_ok-order.ensures ∙ ap (placed c.args.position c.args.number) c.deref.ensures.value in
    let len : length c.deref-2.result.now ≡ length (placed c.args.position c.args.number c.in_ok-old.old.items) = ap length is in
    inr (long.0, (c.in_ok-old.old.items, c.in_ok-old.ensures.found, omega (arith, long.1, len))))
