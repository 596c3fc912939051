use Rattle.std.proofs.Common.{◌≡◌, ℕ, true, List, [], length, ap, subst, ◌∙◌, arith}
use Rattle.std.proofs.lemmas.Result.{IfOk-weaker, IfErr-weaker}
use Rattle.boot_edits.specs.Edit.{IsOrderOf}
use Rattle.boot_edits.specs.Orders.{each_once}
use Rattle.boot_edits.proofs.Orders.{extended_fits}
use Rattle.boot_edits.proofs.reorder.unrepeat.Goals as goal

pub returns-clause-done : goal.returns-clause-done
returns-clause-done c =
    let is = c.deref-2.ensures.value ∙ c.in_ok-order.ensures ∙ ap each_once c.deref.ensures.value in
    IfOk-weaker c.with_order.result _ _
    (λ to done. record {
      order = c.in_ok-old.old.items;
      has_order = c.in_ok-old.ensures.found;
      becomes = subst (λ (o : List ℕ). IsOrderOf c.args.vars.now o to) is done.1;
    })
    c.with_order.ensures.done

pub returns-clause-refused : goal.returns-clause-refused
returns-clause-refused c =
    let order = c.in_ok-old.old.items in
    let is = c.deref-2.ensures.value ∙ c.in_ok-order.ensures ∙ ap each_once c.deref.ensures.value in
    let len : length c.deref-2.result.now ≡ length (each_once order) = ap length is in
    IfErr-weaker c.with_order.result _ _
    (λ fault long told.
    absurd (omega (arith, (long told).1, len, extended_fits (λ number. true) [] order, c.in_ok-old.ensures.found.is.len)))
    c.with_order.ensures.refused
