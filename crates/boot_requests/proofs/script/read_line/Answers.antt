use Rattle.std.proofs.Common.{true≢false, sym, ◌∙◌}
use Rattle.boot_requests.proofs.EventLists.Scripts.{delivery_or_none}
use Rattle.boot_requests.proofs.script.read_line.Goals as goal

pub returns-else-is-3 : goal.returns-else-is-3
returns-else-is-3 c =
    delivery_or_none c.args.line.now c.read_delivery.result
    (λ e. true≢false (sym (c.is.ensures.1 e) ∙ c.if-is.false))
    (λ e. true≢false (sym (c.is-else-is.ensures.1 e) ∙ c.if-is-2.false))
    (λ e. true≢false (sym (c.is-else-is-2.ensures.1 e) ∙ c.if-is-3.false))
    c.read_delivery.ensures
