-- BootOrder is without the number, or stays as it is if it has none.
use Rattle.std.proofs.Common.{◌≡◌, ℕ, List, [], ◌∷◌, length, sym, ap, ◌∙◌, arith}
use Rattle.boot_requests.specs.Apply.{is_in, without}
use Rattle.boot_requests.proofs.Variables.Edits.{order_kept}
use Rattle.boot_requests.proofs.Variables.OrderLists.{left_fits, without_absent}
use Rattle.boot_requests.proofs.edit.remove_number.Goals as goal

pub store_order-requires : goal.store_order-requires
store_order-requires c =
    let others = c.deref-3.ensures.value ∙ c.in_ok-others.ensures ∙ ap (λ (o : List ℕ). without o c.args.number) c.deref-2.ensures.value in
    let len : length c.deref-3.result.now ≡ length (without c.in_ok-order.order.items c.args.number) = ap length others in
    omega (arith, len, left_fits (c.args.number ∷ []) c.in_ok-order.order.items, c.in_ok-order.ensures.len)

pub returns-then-not-is_in : goal.returns-then-not-is_in
returns-then-not-is_in c = λ m h.
    let order = c.deref.ensures.value ∙ c.in_ok-order.ensures.order m h in
    let none = ap (λ (o : List ℕ). is_in o c.args.number) (sym order) ∙ sym c.is_in.ensures ∙ c.if-not-is_in.true in
    order_kept m _ _ (without_absent m.order c.args.number none) h

pub returns : goal.returns
returns c = λ m h.
    let order = c.deref-2.ensures.value ∙ c.in_ok-order.ensures.order m h in
    let others = c.deref-3.ensures.value ∙ c.in_ok-others.ensures ∙ ap (λ (o : List ℕ). without o c.args.number) order in
    rw others at (c.in_ok-store_order.ensures c.args.vars.now m h)
