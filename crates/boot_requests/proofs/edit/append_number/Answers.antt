-- BootOrder has the number as its last one, unless it has it already or is full.
use Rattle.std.proofs.Common.{◌≡◌, ◌≤◌, ◌<◌, ℕ, List, [], ◌∷◌, ◌++◌, length, sym, ap, ◌∙◌, arith}
use Rattle.uefi_vars.specs.Order.{order_max}
use Rattle.boot_requests.specs.Apply.{is_in}
use Rattle.boot_requests.proofs.Variables.Edits.{order_kept}
use Rattle.boot_requests.proofs.Variables.OrderLists.{order_with_there, order_with_full, order_with_last}
use Rattle.boot_requests.proofs.edit.append_number.Goals as goal

pub returns-then-is_in : goal.returns-then-is_in
returns-then-is_in c = λ m h.
    let order = c.deref.ensures.value ∙ c.in_ok-order.ensures.order m h in
    order_kept m _ _ (order_with_there m.order c.args.number (ap (λ (o : List ℕ). is_in o c.args.number) (sym order) ∙ sym c.is_in.ensures ∙ c.if-is_in.true)) h

pub returns-then-len-ge-ORDER_MAX : goal.returns-then-len-ge-ORDER_MAX
returns-then-len-ge-ORDER_MAX c = λ m h.
    let order = c.deref.ensures.value ∙ c.in_ok-order.ensures.order m h in
    let new = ap (λ (o : List ℕ). is_in o c.args.number) (sym order) ∙ sym c.is_in.ensures ∙ c.if-is_in.false in
    let len : length c.in_ok-order.order.items ≡ length m.order = ap length (c.in_ok-order.ensures.order m h) in
    let full : order_max ≤ length m.order = omega (arith, len, c.if-len-ge-ORDER_MAX.true, c.len.ensures) in
    order_kept m _ _ (order_with_full m.order c.args.number new full) h

pub returns : goal.returns
returns c = λ m h.
    let order = c.deref.ensures.value ∙ c.in_ok-order.ensures.order m h in
    let new = ap (λ (o : List ℕ). is_in o c.args.number) (sym order) ∙ sym c.is_in.ensures ∙ c.if-is_in.false in
    let len : length c.in_ok-order.order.items ≡ length m.order = ap length (c.in_ok-order.ensures.order m h) in
    let room : length m.order < order_max = omega (arith, len, c.if-len-ge-ORDER_MAX.false, c.len.ensures) in
    let pushed = c.deref-2.ensures.value ∙ c.in_ok-push.ensures.items ∙ ap (λ (o : List ℕ). o ++ c.args.number ∷ []) (c.in_ok-order.ensures.order m h)
    ∙ sym (order_with_last m.order c.args.number new room) in
    rw pushed at (c.in_ok-store_order.ensures c.args.vars.now m h)
