use Rattle.std.proofs.Common.{sym, ap, ◌∙◌}
use Rattle.boot_requests.specs.State.{State}
use Rattle.boot_requests.specs.StateOf.{order_in}
use Rattle.boot_requests.proofs.Variables.StateOf.{state_is}
use Rattle.boot_requests.proofs.edit.read_order.Goals as goal

pub returns-in_default-clause-order : goal.returns-in_default-clause-order
returns-in_default-clause-order c = λ m h.
    c.new.ensures.items ∙ sym (ap (λ (s : State). s.order) (state_is m _ h) ∙ ap order_in (sym c.in_default.ensures))

pub returns-clause-order : goal.returns-clause-order
returns-clause-order c = λ m h.
    c.in_ok-order.ensures ∙ sym (ap (λ (s : State). s.order) (state_is m _ h) ∙ ap order_in (sym c.in-Some.ensures))
