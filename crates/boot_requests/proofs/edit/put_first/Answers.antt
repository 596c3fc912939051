-- BootOrder has the number in front, if there is room for it.
use Rattle.std.proofs.Common.{◌≡◌, ℕ, List, [], ◌∷◌, length, true, sym, ap, ◌∙◌, arith}
use Rattle.boot_requests.specs.Apply.{has_room, in_front}
use Rattle.boot_requests.proofs.Variables.Edits.{order_kept}
use Rattle.boot_requests.proofs.Variables.OrderLists.{order_from_room, order_from_full, front_fits}
use Rattle.boot_requests.proofs.edit.put_first.Goals as goal

pub store_order-requires : goal.store_order-requires
store_order-requires c =
    let order = c.in_ok-order.order.items in
    let room : has_room order c.args.number ≡ true = ap (λ (o : List ℕ). has_room o c.args.number) (sym c.deref.ensures.value)
    ∙ sym c.has_room.ensures ∙ c.if-not-has_room.false in
    let new = c.deref-3.ensures.value ∙ c.in_ok-new.ensures ∙ ap (in_front (c.args.number ∷ [])) c.deref-2.ensures.value in
    let len : length c.deref-3.result.now ≡ length (in_front (c.args.number ∷ []) order) = ap length new in
    omega (arith, len, front_fits order c.args.number room c.in_ok-order.ensures.len)

pub returns-then-not-has_room : goal.returns-then-not-has_room
returns-then-not-has_room c = λ m h.
    let order = c.deref.ensures.value ∙ c.in_ok-order.ensures.order m h in
    order_kept m _ _
    (order_from_full m.order c.args.number (ap (λ (o : List ℕ). has_room o c.args.number) (sym order) ∙ sym c.has_room.ensures ∙ c.if-not-has_room.true)) h

pub returns : goal.returns
returns c = λ m h.
    let order = c.deref.ensures.value ∙ c.in_ok-order.ensures.order m h in
    let room = ap (λ (o : List ℕ). has_room o c.args.number) (sym order) ∙ sym c.has_room.ensures ∙ c.if-not-has_room.false in
    let new = c.deref-3.ensures.value ∙ c.in_ok-new.ensures
    ∙ ap (in_front (c.args.number ∷ [])) (c.deref-2.ensures.value ∙ c.in_ok-order.ensures.order m h)
    ∙ sym (order_from_room m.order c.args.number room) in
    rw new at (c.in_ok-store_order.ensures c.args.vars.now m h)
